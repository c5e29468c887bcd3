use Rattle.std.proofs.Common.{Bool, drop, sym, subst, ap, filter, length, arith}
use Rattle.wit_model.specs.declared.locks.Instance.{Instance}
use Rattle.wit_model.specs.Rules.Numbers.{IsGiven}
use Rattle.wit_model.specs.Rules.Chunks.{groups_of, chain_of, upto}
use Rattle.wit_model.specs.Rules.Groups.{flat}
use Rattle.wit_model.specs.Rules.Warnings.{is_allowed}
use Rattle.wit_model.proofs.Walking.{within}
use Rattle.wit_held.specs.Warned.{AreTyped}
use Rattle.wit_held.proofs.Passing.{all-in-chunk, both, passing-all, passing-more, passing-within}
use Rattle.wit_held.proofs.warnings.count_sleep.Goals as goal

pub allowed_in-counted-requires : goal.allowed_in-counted-requires
allowed_in-counted-requires g c =
    let chunks = g.L.Lists.chunks c.args.lists.now in
    subst (AreTyped (g.T.LockTypes.basis c.args.types.now)) (sym c.group.ensures)
    (all-in-chunk (λ (i : Instance). IsGiven (g.T.LockTypes.basis c.args.types.now).lock_types
    i.lock.0) (groups_of chunks c.args.list) c.in-Some.at.group
    (within chunks c.args.list c.loop-spot.spot c.in-Some.at c.in-Some.is c.loop-spot.invariant.0)
    c.requires.typed)

pub overflow_sub-counted : goal.overflow_sub-counted
overflow_sub-counted g c =
    let allowed : Instance → Bool =
    is_allowed (g.T.LockTypes.basis c.args.types.now) c.args.named c.args.flags in
    let chunks = g.L.Lists.chunks c.args.lists.now in
    omega (
      arith,
      c.loop-spot.invariant.1,
      c.allowed_in-counted.ensures,
      ap (λ e. length (filter allowed e)) c.group.ensures,
      passing-more allowed (groups_of chunks c.args.list) c.in-Some.at.group (upto c.loop-spot.spot)
          (within chunks c.args.list c.loop-spot.spot c.in-Some.at c.in-Some.is
          c.loop-spot.invariant.0) (ap upto c.in-Some.is),
      passing-within allowed (groups_of chunks c.args.list) c.in-Some.at.group,
    )

pub loop-spot-preserved : goal.loop-spot-preserved
loop-spot-preserved g c =
    let allowed : Instance → Bool =
    is_allowed (g.T.LockTypes.basis c.args.types.now) c.args.named c.args.flags in
    let chunks = g.L.Lists.chunks c.args.lists.now in (
      c.older-spot.ensures.spot,
      omega (
        arith,
        c.loop-spot.invariant.1,
        c.allowed_in-counted.ensures,
        ap (λ e. length (filter allowed e)) c.group.ensures,
        passing-more allowed (groups_of chunks c.args.list) c.in-Some.at.group
            (upto c.loop-spot.spot)
            (within chunks c.args.list c.loop-spot.spot c.in-Some.at c.in-Some.is
            c.loop-spot.invariant.0) (ap upto c.in-Some.is),
        passing-within allowed (groups_of chunks c.args.list) c.in-Some.at.group,
        ap (λ n. length (filter allowed (flat (drop n (groups_of chunks c.args.list)))))
            c.older-spot.ensures.before,
      ),
    )

pub returns-clause-value : goal.returns-clause-value
returns-clause-value g c =
    let allowed : Instance → Bool =
    is_allowed (g.T.LockTypes.basis c.args.types.now) c.args.named c.args.flags in
    omega (
      arith,
      c.loop-spot.invariant.1,
      both allowed (chain_of (g.L.Lists.chunks c.args.lists.now) c.args.list),
      passing-all allowed (groups_of (g.L.Lists.chunks c.args.lists.now) c.args.list)
          (upto c.loop-spot.spot) (ap upto c.in_default.is),
    )
