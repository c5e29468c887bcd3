use Rattle.std.proofs.Common.{length}
use Rattle.wit_traced.proofs.numbers.+decimal_from.Given as goal

-- what was not read
abbrev pub decreases-decimal_from : goal.decreases-decimal_from
decreases-decimal_from l = length l.bytes.now
