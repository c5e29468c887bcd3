use Rattle.std.proofs.Common.{length}
use Rattle.wit_traced.proofs.lockdep.+is_nothing.Given as goal

-- what was not looked at
abbrev pub decreases-is_nothing : goal.decreases-is_nothing
decreases-is_nothing l = length l.number.now
