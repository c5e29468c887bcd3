use Rattle.std.proofs.Common.{List, drop, ap, ap₂, sym, ◌∙◌, subst}
use Rattle.wit_model.specs.declared.locks.Instance.{Instance}
use Rattle.wit_model.specs.Rules.Groups.{flat}
use Rattle.wit_model.specs.Rules.Chunks.{groups_of, chain_of, upto}
use Rattle.wit_model.specs.Rules.Numbers.{IsGiven}
use Rattle.wit_model.proofs.Walking.{within}
use Rattle.wit_held.proofs.Passing.{all-in-chunk}
use Rattle.wit_check.specs.declared.held.Seen.{Seen}
use Rattle.wit_check.specs.Held.{IsTyped}
use Rattle.wit_check.specs.Looks.{nothing_seen, with_locks}
use Rattle.wit_check.proofs.Looking.{look-chunk, all-seen}
use Rattle.wit_check.proofs.held.look.Goals as goal

pub look_through-requires-clause-typed : goal.look_through-requires-clause-typed
look_through-requires-clause-typed g c =
    subst (IsTyped c.args.basis.now.lock_types) (sym c.group.ensures)
    (all-in-chunk (λ (i : Instance). IsGiven c.args.basis.now.lock_types i.lock.0)
    (groups_of (g.L.Lists.chunks c.args.lists.now) c.args.list)
    c.in-Some.at.group
    (within (g.L.Lists.chunks c.args.lists.now) c.args.list c.loop-spot.spot c.in-Some.at
    c.in-Some.is c.loop-spot.invariant.0) c.requires.chain.typed)

pub loop-spot-preserved : goal.loop-spot-preserved
loop-spot-preserved g c = (
  c.older-spot.ensures.spot,
  c.look_through.ensures
      ∙ ap₂ (λ (e : List Instance) (s : Seen). with_locks c.args.basis.now c.args.request e s)
      c.group.ensures c.loop-spot.invariant.1
      ∙ look-chunk c.args.basis.now c.args.request
      (groups_of (g.L.Lists.chunks c.args.lists.now) c.args.list) nothing_seen
      c.in-Some.at.group
      (upto c.loop-spot.spot) (within (g.L.Lists.chunks c.args.lists.now) c.args.list
      c.loop-spot.spot c.in-Some.at c.in-Some.is c.loop-spot.invariant.0)
      (ap upto c.in-Some.is)
      ∙ sym (ap (λ n. with_locks c.args.basis.now c.args.request
      (flat (drop n (groups_of (g.L.Lists.chunks c.args.lists.now) c.args.list))) nothing_seen)
      c.older-spot.ensures.before),
)

pub returns : goal.returns
returns g c =
    c.loop-spot.invariant.1
    ∙ ap (λ n. with_locks c.args.basis.now c.args.request
    (flat (drop n (groups_of (g.L.Lists.chunks c.args.lists.now) c.args.list))) nothing_seen)
    (ap upto c.in_default.is)
    ∙ all-seen c.args.basis.now c.args.request
    (chain_of (g.L.Lists.chunks c.args.lists.now) c.args.list) c.requires.chain.once
