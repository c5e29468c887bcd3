use Rattle.std.proofs.Common.{length}
use Rattle.wit_findings.proofs.reports.+put_steps_from.Given as goal

abbrev pub decreases-put_steps_from : goal.decreases-put_steps_from
decreases-put_steps_from l = length l.others.now
