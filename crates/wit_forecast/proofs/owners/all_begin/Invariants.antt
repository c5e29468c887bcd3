use Rattle.std.proofs.Common.{ℕ, ◌<◌}
use Rattle.wit_forecast.specs.Owners.{lines_in, own, Begins}
use Rattle.wit_forecast.proofs.owners.all_begin.Given as goal

-- so it is of each seat that was looked at
abbrev pub invariant-loop-seat : goal.invariant-loop-seat
invariant-loop-seat l =
    (t : ℕ) → t < l.seat → Begins (own t (lines_in l.chosen)) (own t (lines_in l.all))
