use Rattle.std.proofs.Common.{length}
use Rattle.wit_fields.proofs.words.+bits_of.Given as goal

-- the letters that are left
abbrev pub decreases-bits_of : goal.decreases-bits_of
decreases-bits_of l = length l.letters.now
