use Rattle.wit_model.specs.Rules.Chunks.{groups_of, upto}
use Rattle.wit_model.proofs.Walking.{IsNext}
use Rattle.wit_held.proofs.Newest.{IsBefore}
use Rattle.wit_held.proofs.spots.find_held.Given as goal

abbrev pub invariant-loop-spot : goal.invariant-loop-spot
invariant-loop-spot g l =
    IsNext (g.L.Lists.chunks l.lists) l.list l.spot
    × IsBefore l.lock.0 (groups_of (g.L.Lists.chunks l.lists) l.list) (upto l.spot)

abbrev pub decreases-loop-spot : goal.decreases-loop-spot
decreases-loop-spot g l = upto l.spot
