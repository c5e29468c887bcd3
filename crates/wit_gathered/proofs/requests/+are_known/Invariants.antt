use Rattle.std.proofs.Common.{length}
use Rattle.wit_gathered.proofs.requests.+are_known.Given as goal

-- what was not looked at
abbrev pub decreases-are_known : goal.decreases-are_known
decreases-are_known l = length l.steps.now
