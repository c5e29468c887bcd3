use Rattle.std.proofs.Common.{length}
use Rattle.wit_forecast.proofs.owners.+next_own.Given as goal

-- the lines that are left
abbrev pub decreases-next_own : goal.decreases-next_own
decreases-next_own l = length l.lines.now
