use Rattle.std.proofs.Common.{length}
use Rattle.wit_findings.proofs.grades.+put_singles.Given as goal

abbrev pub decreases-put_singles : goal.decreases-put_singles
decreases-put_singles l = length l.locks.now
