use Rattle.std.proofs.Common.{length}
use Rattle.wit_traced.proofs.kprobes.+are_zeros.Given as goal

-- what was not read
abbrev pub decreases-are_zeros : goal.decreases-are_zeros
decreases-are_zeros l = length l.digits.now
