use Rattle.wit_forecast.proofs.Resting.{Kept}
use Rattle.wit_forecast.proofs.rests.rests_of.Given as goal

-- what each seat has before the place is counted
abbrev pub invariant-loop-place : goal.invariant-loop-place
invariant-loop-place l = Kept l.had.items l.rests.items l.body l.place
