use Rattle.std.proofs.Common.{◌≡◌, ◌++◌, take}
use Rattle.wit_report.proofs.warnings.add_all.Given as goal

abbrev pub invariant-loop-instance : goal.invariant-loop-instance
invariant-loop-instance l = l.held.items ≡ l.initial.held.items ++ take l.instance-index l.spin
