use Rattle.std.proofs.Common.{length}
use Rattle.wit_forecast.proofs.errands.+is_alike.Given as goal

-- the bytes that are left
abbrev pub decreases-is_alike : goal.decreases-is_alike
decreases-is_alike l = length l.one.now
