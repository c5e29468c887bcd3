use Rattle.std.proofs.Common.{◌≡◌, ◌<◌, ◌+◌, length}
use Rattle.wit_model.specs.Rules.Groups.{flat}
use Rattle.wit_model.specs.Rules.Chunks.{upto, chain_of}
use Rattle.wit_model.proofs.Walking.{IsNext, newer_than}
use Rattle.wit_model.proofs.chunks.locate.Given as goal

abbrev pub invariant-loop-spot : goal.invariant-loop-spot
invariant-loop-spot g l =
    IsNext (g.L.Lists.chunks l.lists) l.list l.spot
    × (l.start + length (flat (newer_than (g.L.Lists.chunks l.lists) l.list l.spot))
    ≡ length (chain_of (g.L.Lists.chunks l.lists) l.list))
    × (l.place < l.start)

abbrev pub decreases-loop-spot : goal.decreases-loop-spot
decreases-loop-spot g l = upto l.spot
