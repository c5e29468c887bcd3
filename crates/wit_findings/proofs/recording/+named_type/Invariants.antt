use Rattle.std.proofs.Common.{length}
use Rattle.wit_findings.proofs.recording.+named_type.Given as goal

abbrev pub decreases-named_type : goal.decreases-named_type
decreases-named_type l = length l.names.now
