use Rattle.std.proofs.Common.{length}
use Rattle.wit_gathered.proofs.types.+merged.Given as goal

-- what was not looked at
abbrev pub decreases-merged : goal.decreases-merged
decreases-merged l = length l.firsts.now
