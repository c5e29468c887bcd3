use Rattle.std.proofs.Common.{length}
use Rattle.wit_forecast.proofs.errands.+next_done.Given as goal

-- the lines that are left
abbrev pub decreases-next_done : goal.decreases-next_done
decreases-next_done l = length l.lines.now
