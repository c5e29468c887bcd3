use Rattle.std.proofs.Common.{length}
use Rattle.wit_forecast.proofs.owners.+begins.Given as goal

-- the chosen lines that are left
abbrev pub decreases-begins : goal.decreases-begins
decreases-begins l = length l.chosen.now
