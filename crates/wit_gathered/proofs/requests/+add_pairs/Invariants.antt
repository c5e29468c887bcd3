use Rattle.std.proofs.Common.{length}
use Rattle.wit_gathered.proofs.requests.+add_pairs.Given as goal

-- what was not looked at
abbrev pub decreases-add_pairs : goal.decreases-add_pairs
decreases-add_pairs l = length l.steps.now
