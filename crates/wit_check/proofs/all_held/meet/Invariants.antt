use Rattle.std.proofs.Common.{◌≡◌}
use Rattle.wit_model.specs.Rules.Groups.{flat}
use Rattle.wit_model.specs.Rules.Chunks.{upto}
use Rattle.wit_model.proofs.Walking.{IsNext, newer_than}
use Rattle.wit_check.specs.Meets.{nothing_met, with_all_met}
use Rattle.wit_check.proofs.all_held.meet.Given as goal

abbrev pub invariant-loop-spot : goal.invariant-loop-spot
invariant-loop-spot g l =
    IsNext (g.L.Lists.chunks l.lists) l.list l.spot
    × (l.met ≡ with_all_met l.basis l.request
    (flat (newer_than (g.L.Lists.chunks l.lists) l.list l.spot)) nothing_met)

abbrev pub decreases-loop-spot : goal.decreases-loop-spot
decreases-loop-spot g l = upto l.spot
