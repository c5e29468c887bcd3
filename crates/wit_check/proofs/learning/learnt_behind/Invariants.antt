use Rattle.std.proofs.Common.{◌≡◌, []}
use Rattle.wit_model.specs.Rules.Groups.{flat}
use Rattle.wit_model.specs.Rules.Chunks.{upto}
use Rattle.wit_model.specs.Rules.Verdict.{orders_behind}
use Rattle.wit_model.proofs.Walking.{IsNext, newer_than}
use Rattle.wit_check.specs.Meets.{with_parents}
use Rattle.wit_check.proofs.learning.learnt_behind.Given as goal

abbrev pub invariant-loop-spot : goal.invariant-loop-spot
invariant-loop-spot g l =
    IsNext (g.L.Lists.chunks l.lists) l.list l.spot
    × (l.learnt ≡ orders_behind l.request
    (with_parents l.basis l.request
    (flat (newer_than (g.L.Lists.chunks l.lists) l.list l.spot)) []))

abbrev pub decreases-loop-spot : goal.decreases-loop-spot
decreases-loop-spot g l = upto l.spot
