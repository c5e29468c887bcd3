use Rattle.std.proofs.Common.{ap, subst}
use Rattle.wit_model.specs.Rules.Chunks.{groups_of, chain_of, upto}
use Rattle.wit_held.proofs.Newest.{IsBefore, not-found}
use Rattle.wit_held.proofs.FoundLock.{there-met, older-misses}
use Rattle.wit_held.proofs.spots.find_held.Goals as goal

pub returns-in-Some-find_lock-clause-there : goal.returns-in-Some-find_lock-clause-there
returns-in-Some-find_lock-clause-there g c =
    there-met (g.L.Lists.chunks c.args.lists.now) c.args.list c.args.lock.0 c.loop-spot.spot
    c.in-Some.at c.in-Some.is c.loop-spot.invariant.0
    c.group-chunk.result.now c.group-chunk.ensures c.requires.once c.in-Some-find_lock.index
    c.in-Some-find_lock.ensures.place
    c.in-Some-find_lock.ensures.within _

pub returns-in-Some-find_lock-clause-held : goal.returns-in-Some-find_lock-clause-held
returns-in-Some-find_lock-clause-held g c =
    (there-met (g.L.Lists.chunks c.args.lists.now) c.args.list c.args.lock.0 c.loop-spot.spot
    c.in-Some.at c.in-Some.is c.loop-spot.invariant.0
    c.group-chunk.result.now c.group-chunk.ensures c.requires.once c.in-Some-find_lock.index
    c.in-Some-find_lock.ensures.place
    c.in-Some-find_lock.ensures.within _).held

pub loop-spot-preserved : goal.loop-spot-preserved
loop-spot-preserved g c = (
  c.older-spot.ensures.spot,
  older-misses (g.L.Lists.chunks c.args.lists.now) c.args.list c.args.lock.0 c.loop-spot.spot
      c.in-Some.at c.in-Some.is c.loop-spot.invariant.0
      c.group-chunk.result.now c.group-chunk.ensures _ c.older-spot.ensures.before
      c.loop-spot.invariant.1 c.in_default-find_lock.ensures.place,
)

pub returns-clause-held : goal.returns-clause-held
returns-clause-held g c =
    not-found c.args.lock.0 (chain_of (g.L.Lists.chunks c.args.lists.now) c.args.list)
    (subst (IsBefore c.args.lock.0 (groups_of (g.L.Lists.chunks c.args.lists.now) c.args.list))
    (ap upto c.in_default.is) c.loop-spot.invariant.1)
