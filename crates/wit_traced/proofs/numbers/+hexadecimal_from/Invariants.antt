use Rattle.std.proofs.Common.{length}
use Rattle.wit_traced.proofs.numbers.+hexadecimal_from.Given as goal

-- what was not read
abbrev pub decreases-hexadecimal_from : goal.decreases-hexadecimal_from
decreases-hexadecimal_from l = length l.bytes.now
