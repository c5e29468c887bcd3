use Rattle.std.proofs.Common.{length}
use Rattle.wit_import.proofs.pairs.+add_pairs.Given as goal

-- what is held and was not looked at
abbrev pub decreases-add_pairs : goal.decreases-add_pairs
decreases-add_pairs l = length l.held.now
