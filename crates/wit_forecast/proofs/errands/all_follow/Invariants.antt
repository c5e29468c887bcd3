use Rattle.std.proofs.Common.{ℕ, ◌<◌}
use Rattle.wit_forecast.specs.Errands.{HasErrand}
use Rattle.wit_forecast.specs.Owners.{lines_in}
use Rattle.wit_forecast.proofs.errands.all_follow.Given as goal

-- so it is of each seat that was looked at
abbrev pub invariant-loop-seat : goal.invariant-loop-seat
invariant-loop-seat l =
    (t : ℕ) → t < l.seat → HasErrand l.own_alone (lines_in l.chosen) (lines_in l.body) t
