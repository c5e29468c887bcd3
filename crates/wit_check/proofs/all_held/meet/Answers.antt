use Rattle.std.proofs.Common.{List, drop, ap, ap₂, sym, ◌∙◌, subst}
use Rattle.wit_model.specs.declared.locks.Instance.{Instance}
use Rattle.wit_model.specs.Rules.Groups.{flat}
use Rattle.wit_model.specs.Rules.Chunks.{groups_of, chain_of, upto}
use Rattle.wit_model.specs.Rules.Numbers.{IsGiven}
use Rattle.wit_model.proofs.Walking.{within}
use Rattle.wit_held.proofs.Passing.{all-in-chunk}
use Rattle.wit_check.specs.declared.all_held.Met.{Met}
use Rattle.wit_check.specs.Held.{IsTyped}
use Rattle.wit_check.specs.Meets.{nothing_met, with_all_met}
use Rattle.wit_check.proofs.Meeting.{meet-chunk, all-met}
use Rattle.wit_check.proofs.all_held.meet.Goals as goal

pub look_through-requires-clause-typed : goal.look_through-requires-clause-typed
look_through-requires-clause-typed g c =
    subst (IsTyped c.args.basis.now.lock_types) (sym c.group.ensures)
    (all-in-chunk (λ (i : Instance). IsGiven c.args.basis.now.lock_types i.lock.0)
    (groups_of (g.L.Lists.chunks c.args.lists.now) c.args.list)
    c.in-Some.at.group
    (within (g.L.Lists.chunks c.args.lists.now) c.args.list c.loop-spot.spot c.in-Some.at
    c.in-Some.is c.loop-spot.invariant.0) c.requires.typed)

pub loop-spot-preserved : goal.loop-spot-preserved
loop-spot-preserved g c = (
  c.older-spot.ensures.spot,
  c.look_through.ensures
      ∙ ap₂ (λ (e : List Instance) (m : Met). with_all_met c.args.basis.now c.args.request e m)
      c.group.ensures c.loop-spot.invariant.1
      ∙ meet-chunk c.args.basis.now c.args.request
      (groups_of (g.L.Lists.chunks c.args.lists.now) c.args.list) nothing_met c.in-Some.at.group
      (upto c.loop-spot.spot) (within (g.L.Lists.chunks c.args.lists.now) c.args.list
      c.loop-spot.spot c.in-Some.at c.in-Some.is c.loop-spot.invariant.0)
      (ap upto c.in-Some.is)
      ∙ sym (ap (λ n. with_all_met c.args.basis.now c.args.request
      (flat (drop n (groups_of (g.L.Lists.chunks c.args.lists.now) c.args.list))) nothing_met)
      c.older-spot.ensures.before),
)

pub returns : goal.returns
returns g c =
    c.loop-spot.invariant.1
    ∙ ap (λ n. with_all_met c.args.basis.now c.args.request
    (flat (drop n (groups_of (g.L.Lists.chunks c.args.lists.now) c.args.list))) nothing_met)
    (ap upto c.in_default.is)
    ∙ all-met c.args.basis.now c.args.request
    (chain_of (g.L.Lists.chunks c.args.lists.now) c.args.list)
