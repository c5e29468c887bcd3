use Rattle.std.proofs.Common.{length}
use Rattle.wit_grammar.proofs.put.+put_letters.Given as goal

-- the letters that are left
abbrev pub decreases-put_letters : goal.decreases-put_letters
decreases-put_letters l = length l.letters.now
