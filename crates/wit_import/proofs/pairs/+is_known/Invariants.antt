use Rattle.std.proofs.Common.{length}
use Rattle.wit_import.proofs.pairs.+is_known.Given as goal

-- what is held and was not looked at
abbrev pub decreases-is_known : goal.decreases-is_known
decreases-is_known l = length l.held.now
