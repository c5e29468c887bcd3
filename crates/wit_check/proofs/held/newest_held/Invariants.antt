use Rattle.std.proofs.Common.{◌≡◌, None, find, reverse}
use Rattle.wit_model.specs.Rules.Groups.{flat}
use Rattle.wit_model.specs.Rules.Chunks.{upto}
use Rattle.wit_model.specs.Rules.Verdict.{is_of}
use Rattle.wit_model.proofs.Walking.{IsNext, newer_than}
use Rattle.wit_check.proofs.held.newest_held.Given as goal

abbrev pub invariant-loop-spot : goal.invariant-loop-spot
invariant-loop-spot g l =
    IsNext (g.L.Lists.chunks l.lists) l.list l.spot
    × (find (is_of l.lock.0) (reverse (flat (newer_than (g.L.Lists.chunks l.lists) l.list l.spot)))
    ≡ None)

abbrev pub decreases-loop-spot : goal.decreases-loop-spot
decreases-loop-spot g l = upto l.spot
