use Rattle.std.proofs.Common.{drop, find, reverse, ap, sym, ◌∙◌}
use Rattle.wit_model.specs.Rules.Chunks.{groups_of, upto}
use Rattle.wit_model.specs.Rules.Groups.{flat}
use Rattle.wit_model.specs.Rules.Verdict.{is_of}
use Rattle.wit_model.proofs.Walking.{within}
use Rattle.wit_check.proofs.Chunks.{found-here, none-here}
use Rattle.wit_check.proofs.held.newest_held.Goals as goal

pub returns-then-is_some : goal.returns-then-is_some
returns-then-is_some g c =
    found-here (is_of c.args.lock.0) (groups_of (g.L.Lists.chunks c.args.lists.now) c.args.list)
    c.in-Some.at.group (upto c.loop-spot.spot)
    c.group.result.now c.newest_in-found.result
    (within (g.L.Lists.chunks c.args.lists.now) c.args.list c.loop-spot.spot c.in-Some.at
    c.in-Some.is c.loop-spot.invariant.0) (ap upto c.in-Some.is)
    c.group.ensures c.newest_in-found.ensures c.loop-spot.invariant.1
    (sym c.is_some.ensures ∙ c.if-is_some.true)

pub loop-spot-preserved : goal.loop-spot-preserved
loop-spot-preserved g c = (
  c.older-spot.ensures.spot,
  ap (λ n. find (is_of c.args.lock.0)
      (reverse (flat (drop n (groups_of (g.L.Lists.chunks c.args.lists.now) c.args.list)))))
      c.older-spot.ensures.before
      ∙ none-here (is_of c.args.lock.0) (groups_of (g.L.Lists.chunks c.args.lists.now) c.args.list)
      c.in-Some.at.group (upto c.loop-spot.spot)
      c.group.result.now c.newest_in-found.result
      (within (g.L.Lists.chunks c.args.lists.now) c.args.list c.loop-spot.spot c.in-Some.at
      c.in-Some.is c.loop-spot.invariant.0) (ap upto c.in-Some.is)
      c.group.ensures c.newest_in-found.ensures c.loop-spot.invariant.1
      (sym c.is_some.ensures ∙ c.if-is_some.false),
)
