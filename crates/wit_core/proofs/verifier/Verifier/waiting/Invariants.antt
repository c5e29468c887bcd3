use Rattle.std.proofs.Common.{◌≡◌}
use Rattle.wit_model.specs.Rules.Circles.{waits_for}
use Rattle.wit_model.specs.Rules.State.{state_of}
use Rattle.wit_waiting.specs.Searching.{waiting}
use Rattle.wit_core.proofs.verifier.Verifier.waiting.Given as goal

abbrev pub invariant-loop-place : goal.invariant-loop-place
invariant-loop-place l = l.row.items ≡ waiting (waits_for (state_of l.self)) l.place l.other.0
