use Rattle.std.proofs.Common.{length}
use Rattle.wit_gathered.proofs.holds.+any_from.Given as goal

-- what is held and was not looked at
abbrev pub decreases-any_from : goal.decreases-any_from
decreases-any_from l = length l.held.now
