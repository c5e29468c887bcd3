use Rattle.std.proofs.Common.{length}
use Rattle.wit_import.proofs.blocks.+put_held.Given as goal

-- what is held and was not looked at
abbrev pub decreases-put_held : goal.decreases-put_held
decreases-put_held l = length l.held.now
