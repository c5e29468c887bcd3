use Rattle.std.proofs.Common.{length}
use Rattle.wit_kernel.proofs.telling.+tell_held.Given as goal

-- what was not looked at
abbrev pub decreases-tell_held : goal.decreases-tell_held
decreases-tell_held l = length l.held.now
