use Rattle.std.proofs.Common.{length}
use Rattle.wit_gathered.proofs.requests.+put_own.Given as goal

-- what is held and was not looked at
abbrev pub decreases-put_own : goal.decreases-put_own
decreases-put_own l = length l.held.now
