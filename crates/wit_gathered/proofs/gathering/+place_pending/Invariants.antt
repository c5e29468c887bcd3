use Rattle.std.proofs.Common.{length}
use Rattle.wit_gathered.proofs.gathering.+place_pending.Given as goal

-- what hasn't returned and was not looked at
abbrev pub decreases-place_pending : goal.decreases-place_pending
decreases-place_pending l = length l.pending.now
