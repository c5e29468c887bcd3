use Rattle.std.proofs.Common.{length}
use Rattle.wit_forecast.proofs.errands.+follows.Given as goal

-- the chosen lines that are left
abbrev pub decreases-follows : goal.decreases-follows
decreases-follows l = length l.chosen.now
