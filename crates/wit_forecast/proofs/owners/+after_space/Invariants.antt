use Rattle.std.proofs.Common.{length}
use Rattle.wit_forecast.proofs.owners.+after_space.Given as goal

-- the bytes that are left
abbrev pub decreases-after_space : goal.decreases-after_space
decreases-after_space l = length l.line.now
