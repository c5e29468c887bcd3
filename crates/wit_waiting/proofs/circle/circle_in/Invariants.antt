use Rattle.std.proofs.Common.{ℕ, ◌<◌, ◌≤◌, None}
use Rattle.wit_waiting.specs.Searching.{table_of, IsCircleFrom}
use Rattle.wit_waiting.proofs.circle.circle_in.Given as goal

abbrev pub invariant-loop-place : goal.invariant-loop-place
invariant-loop-place l = (t : ℕ) → 0 < t → t ≤ l.place → IsCircleFrom (table_of l.rows) t None
