use Rattle.std.proofs.Common.{◌≡◌, ◌+◌, length, filter}
use Rattle.wit_model.specs.Rules.Groups.{flat}
use Rattle.wit_model.specs.Rules.Chunks.{chain_of, upto}
use Rattle.wit_model.specs.Rules.Warnings.{is_allowed}
use Rattle.wit_model.proofs.Walking.{IsNext, newer_than}
use Rattle.wit_held.proofs.warnings.count_sleep.Given as goal

abbrev pub invariant-loop-spot : goal.invariant-loop-spot
invariant-loop-spot g l =
    IsNext (g.L.Lists.chunks l.lists) l.list l.spot
    × (l.counted
    + length (filter (is_allowed (g.T.LockTypes.basis l.types) l.named l.flags)
    (flat (newer_than (g.L.Lists.chunks l.lists) l.list l.spot)))
    ≡ length (chain_of (g.L.Lists.chunks l.lists) l.list))

abbrev pub decreases-loop-spot : goal.decreases-loop-spot
decreases-loop-spot g l = upto l.spot
