use Rattle.std.proofs.Common.{List, [], drop, ap, sym, ◌∙◌, subst}
use Rattle.wit_model.specs.declared.locks.Instance.{Instance}
use Rattle.wit_model.specs.declared.locks.TypeNo.{TypeNo}
use Rattle.wit_model.specs.Rules.Groups.{flat}
use Rattle.wit_model.specs.Rules.Chunks.{groups_of, chain_of, upto}
use Rattle.wit_model.specs.Rules.Numbers.{IsGiven}
use Rattle.wit_model.specs.Rules.Verdict.{orders_behind}
use Rattle.wit_model.proofs.Walking.{within, newer_than}
use Rattle.wit_held.proofs.Passing.{all-in-chunk}
use Rattle.wit_check.specs.Held.{IsTyped}
use Rattle.wit_check.specs.Meets.{with_parents}
use Rattle.wit_check.proofs.Meeting.{parents-chunk, all-parents}
use Rattle.wit_check.proofs.learning.learnt_behind.Goals as goal

pub learn-requires-clause-typed : goal.learn-requires-clause-typed
learn-requires-clause-typed g c =
    subst (IsTyped c.args.basis.now.lock_types) (sym c.group.ensures)
    (all-in-chunk (λ (i : Instance). IsGiven c.args.basis.now.lock_types i.lock.0)
    (groups_of (g.L.Lists.chunks c.args.lists.now) c.args.list)
    c.in-Some.at.group
    (within (g.L.Lists.chunks c.args.lists.now) c.args.list c.loop-spot.spot c.in-Some.at
    c.in-Some.is c.loop-spot.invariant.0) c.requires.typed)

pub loop-spot-preserved : goal.loop-spot-preserved
loop-spot-preserved g c =
    let newer : List TypeNo =
    with_parents c.args.basis.now c.args.request
    (flat (newer_than (g.L.Lists.chunks c.args.lists.now) c.args.list c.loop-spot.spot)) []
    in (
      c.older-spot.ensures.spot,
      c.in_ok-learn.ensures newer c.loop-spot.invariant.1
          ∙ ap (orders_behind c.args.request)
          (ap (λ (e : List Instance). with_parents c.args.basis.now c.args.request e newer)
          c.group.ensures
          ∙ parents-chunk c.args.basis.now c.args.request
          (groups_of (g.L.Lists.chunks c.args.lists.now) c.args.list) [] c.in-Some.at.group
          (upto c.loop-spot.spot) (within (g.L.Lists.chunks c.args.lists.now) c.args.list
          c.loop-spot.spot c.in-Some.at c.in-Some.is c.loop-spot.invariant.0)
          (ap upto c.in-Some.is)
          ∙ sym (ap (λ n. with_parents c.args.basis.now c.args.request
          (flat (drop n (groups_of (g.L.Lists.chunks c.args.lists.now) c.args.list))) [])
          c.older-spot.ensures.before)),
    )

pub returns : goal.returns
returns g c =
    c.loop-spot.invariant.1
    ∙ ap (orders_behind c.args.request)
    (ap (λ n. with_parents c.args.basis.now c.args.request
    (flat (drop n (groups_of (g.L.Lists.chunks c.args.lists.now) c.args.list))) [])
    (ap upto c.in_default.is)
    ∙ all-parents c.args.basis.now c.args.request
    (chain_of (g.L.Lists.chunks c.args.lists.now) c.args.list))
