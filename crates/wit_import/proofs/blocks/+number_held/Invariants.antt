use Rattle.std.proofs.Common.{length}
use Rattle.wit_import.proofs.blocks.+number_held.Given as goal

-- what is held and was not looked at
abbrev pub decreases-number_held : goal.decreases-number_held
decreases-number_held l = length l.held.now
