use Rattle.std.proofs.Common.{length}
use Rattle.wit_findings.proofs.processes.+find.Given as goal

abbrev pub decreases-find : goal.decreases-find
decreases-find l = length l.others.now
