use Rattle.std.proofs.Common.{length}
use Rattle.wit_import.proofs.blocks.+put_releases.Given as goal

-- what is held and was not looked at
abbrev pub decreases-put_releases : goal.decreases-put_releases
decreases-put_releases l = length l.held.now
