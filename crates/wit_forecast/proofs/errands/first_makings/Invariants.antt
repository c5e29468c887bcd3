use Rattle.std.proofs.Common.{◌≡◌, ◌++◌, length}
use Rattle.wit_forecast.specs.Errands.{making}
use Rattle.wit_forecast.specs.Owners.{lines_in}
use Rattle.wit_forecast.proofs.errands.first_makings.Given as goal

-- what was taken, and what is left, makes the locks
abbrev pub invariant-loop-line : goal.invariant-loop-line
invariant-loop-line l =
    making (lines_in l.body) ≡ lines_in l.made.items ++ making (lines_in l.rest)

abbrev pub decreases-loop-line : goal.decreases-loop-line
decreases-loop-line l = length l.rest
