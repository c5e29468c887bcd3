use Rattle.std.proofs.Common.{ℕ, ◌<◌, get_or}
use Rattle.wit_circles.proofs.kept.row_rises.Given as goal

abbrev pub invariant-loop-to : goal.invariant-loop-to
invariant-loop-to l =
    (k : ℕ) → k < l.to-index → l.low < get_or l.ranks (get_or l.row k 0) 0
