use Rattle.std.proofs.Common.{◌≡◌, length}
use Rattle.wit_model.specs.Rules.Groups.{flat}
use Rattle.wit_model.specs.Rules.Chunks.{upto}
use Rattle.wit_model.proofs.Walking.{IsNext, newer_than}
use Rattle.wit_model.proofs.chunks.Lists.len.Given as goal

abbrev pub invariant-loop-spot : goal.invariant-loop-spot
invariant-loop-spot g l =
    IsNext (g.Self.Lists.chunks l.self) l.list l.spot
    × (l.held ≡ length (flat (newer_than (g.Self.Lists.chunks l.self) l.list l.spot)))

abbrev pub decreases-loop-spot : goal.decreases-loop-spot
decreases-loop-spot g l = upto l.spot
