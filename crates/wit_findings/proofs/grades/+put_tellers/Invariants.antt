use Rattle.std.proofs.Common.{length}
use Rattle.wit_findings.proofs.grades.+put_tellers.Given as goal

abbrev pub decreases-put_tellers : goal.decreases-put_tellers
decreases-put_tellers l = length l.places.now
