use Rattle.std.proofs.Common.{◌≡◌}
use Rattle.wit_model.specs.Rules.Groups.{flat}
use Rattle.wit_model.specs.Rules.Chunks.{upto}
use Rattle.wit_model.proofs.Walking.{IsNext, newer_than}
use Rattle.wit_check.specs.Looks.{nothing_seen, with_locks}
use Rattle.wit_check.proofs.held.look.Given as goal

abbrev pub invariant-loop-spot : goal.invariant-loop-spot
invariant-loop-spot g l =
    IsNext (g.L.Lists.chunks l.lists) l.list l.spot
    × (l.seen ≡ with_locks l.basis l.request
    (flat (newer_than (g.L.Lists.chunks l.lists) l.list l.spot)) nothing_seen)

abbrev pub decreases-loop-spot : goal.decreases-loop-spot
decreases-loop-spot g l = upto l.spot
