use Rattle.std.proofs.Common.{length}
use Rattle.wit_merge.proofs.reading.+unpadded.Given as goal

-- the bytes that are left
abbrev pub decreases-unpadded : goal.decreases-unpadded
decreases-unpadded l = length l.bytes.now
