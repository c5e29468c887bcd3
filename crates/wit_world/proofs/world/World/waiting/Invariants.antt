use Rattle.std.proofs.Common.{◌≡◌}
use Rattle.wit_model.specs.World.Shown.{waits_in}
use Rattle.wit_waiting.specs.Searching.{waiting}
use Rattle.wit_world.proofs.world.World.waiting.Given as goal

abbrev pub invariant-loop-place : goal.invariant-loop-place
invariant-loop-place l = l.row.items ≡ waiting (waits_in l.self) l.place l.other.0
