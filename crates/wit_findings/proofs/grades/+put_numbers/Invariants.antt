use Rattle.std.proofs.Common.{length}
use Rattle.wit_findings.proofs.grades.+put_numbers.Given as goal

abbrev pub decreases-put_numbers : goal.decreases-put_numbers
decreases-put_numbers l = length l.names.now
