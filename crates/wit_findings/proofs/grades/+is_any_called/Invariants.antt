use Rattle.std.proofs.Common.{length}
use Rattle.wit_findings.proofs.grades.+is_any_called.Given as goal

abbrev pub decreases-is_any_called : goal.decreases-is_any_called
decreases-is_any_called l = length l.types.now
