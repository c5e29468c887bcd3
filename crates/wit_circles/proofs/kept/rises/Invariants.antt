use Rattle.std.proofs.Common.{ℕ, ◌<◌, get_or}
use Rattle.wit_circles.specs.Searching.{rows_of, Next}
use Rattle.wit_circles.proofs.kept.rises.Given as goal

abbrev pub invariant-loop-from : goal.invariant-loop-from
invariant-loop-from l =
    (a b : ℕ) → a < l.from → Next (rows_of l.rows) a b → get_or l.ranks a 0 < get_or l.ranks b 0
