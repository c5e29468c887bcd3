use Rattle.std.proofs.Common.{length}
use Rattle.wit_traced.proofs.lockdep.+fields_in.Given as goal

-- what was not looked at
abbrev pub decreases-fields_in : goal.decreases-fields_in
decreases-fields_in l = length l.text.now
