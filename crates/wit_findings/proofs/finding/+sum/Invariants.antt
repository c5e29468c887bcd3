use Rattle.std.proofs.Common.{length}
use Rattle.wit_findings.proofs.finding.+sum.Given as goal

abbrev pub decreases-sum : goal.decreases-sum
decreases-sum l = length l.all.now
