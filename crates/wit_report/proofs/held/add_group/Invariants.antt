use Rattle.std.proofs.Common.{◌≡◌, ◌++◌, ◌-◌, drop, length, reverse}
use Rattle.wit_report.proofs.held.add_group.Given as goal

abbrev pub invariant-loop-newer : goal.invariant-loop-newer
invariant-loop-newer l =
    l.held.items ≡ l.initial.held.items ++ reverse (drop (length l.group - l.newer) l.group)
