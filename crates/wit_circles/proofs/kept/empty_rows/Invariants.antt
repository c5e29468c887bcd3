use Rattle.std.proofs.Common.{◌≡◌, ℕ, [], length}
use Rattle.wit_circles.specs.Searching.{rows_of, row}
use Rattle.wit_circles.proofs.kept.empty_rows.Given as goal

abbrev pub invariant-loop : goal.invariant-loop
invariant-loop l =
    (length l.rows.items ≡ l.counter) × ((a : ℕ) → row (rows_of l.rows.items) a ≡ [])
