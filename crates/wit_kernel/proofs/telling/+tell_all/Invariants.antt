use Rattle.std.proofs.Common.{length}
use Rattle.wit_kernel.proofs.telling.+tell_all.Given as goal

-- what was not looked at
abbrev pub decreases-tell_all : goal.decreases-tell_all
decreases-tell_all l = length l.all.now
