use Rattle.std.proofs.Common.{ℕ, ◌≡◌, ◌<◌, false}
use Rattle.wit_condensed.specs.Rows.{has_pair}
use Rattle.wit_condensed.proofs.row.clear.Given as goal

abbrev pub invariant-rows : goal.invariant-rows
invariant-rows l = (a b : ℕ) → b < l.row-index → has_pair l.rows a b ≡ false
