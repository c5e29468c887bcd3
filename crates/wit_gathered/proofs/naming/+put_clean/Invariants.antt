use Rattle.std.proofs.Common.{length}
use Rattle.wit_gathered.proofs.naming.+put_clean.Given as goal

-- what was not looked at
abbrev pub decreases-put_clean : goal.decreases-put_clean
decreases-put_clean l = length l.text.now
