use Rattle.std.proofs.Common.{length}
use Rattle.wit_findings.proofs.finding.+put_each.Given as goal

abbrev pub decreases-put_each : goal.decreases-put_each
decreases-put_each l = length l.all.now
