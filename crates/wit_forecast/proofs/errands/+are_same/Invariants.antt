use Rattle.std.proofs.Common.{length}
use Rattle.wit_forecast.proofs.errands.+are_same.Given as goal

-- the lines that are left
abbrev pub decreases-are_same : goal.decreases-are_same
decreases-are_same l = length l.lines.now
