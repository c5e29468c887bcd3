use Rattle.std.proofs.Common.{◌≡◌, replicate}
use Rattle.wit_world.specs.declared.stages.Stage.TheVariants as kept
use Rattle.wit_world.proofs.world.all_over.Given as goal

abbrev pub invariant-loop-seat : goal.invariant-loop-seat
invariant-loop-seat l = l.stages.items ≡ replicate l._seat kept.Over
