use Rattle.std.proofs.Common.{◌≡◌, map}
use Rattle.std.specs.List.{range_with_len}
use Rattle.wit_model.specs.Rules.Circles.{waits_for}
use Rattle.wit_model.specs.Rules.State.{state_of}
use Rattle.wit_waiting.specs.Searching.{waiting, table_of}
use Rattle.wit_core.proofs.verifier.Verifier.all_waiting.Given as goal

abbrev pub invariant-loop-place : goal.invariant-loop-place
invariant-loop-place l =
    table_of l.rows.items ≡ map (waiting (waits_for (state_of l.self)) l.self.start.sizes.seats)
    (range_with_len 1 l.place)
