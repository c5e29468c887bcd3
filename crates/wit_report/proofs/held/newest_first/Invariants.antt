use Rattle.std.proofs.Common.{◌≡◌, reverse}
use Rattle.wit_model.specs.Rules.Groups.{flat}
use Rattle.wit_model.specs.Rules.Chunks.{upto}
use Rattle.wit_model.proofs.Walking.{IsNext, newer_than}
use Rattle.wit_report.proofs.held.newest_first.Given as goal

abbrev pub invariant-loop-spot : goal.invariant-loop-spot
invariant-loop-spot l =
    IsNext l.lists l.list l.spot
    × (l.held.items ≡ reverse (flat (newer_than l.lists l.list l.spot)))

abbrev pub decreases-loop-spot : goal.decreases-loop-spot
decreases-loop-spot l = upto l.spot
