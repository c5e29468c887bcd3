use Rattle.std.proofs.Common.{length}
use Rattle.wit_gathered.proofs.holds.+own_from.Given as goal

-- what is held and was not looked at
abbrev pub decreases-own_from : goal.decreases-own_from
decreases-own_from l = length l.held.now
