use Rattle.std.proofs.Common.{◌≡◌, ◌++◌, take, string_bytes}
use Rattle.wit_model.specs.Rules.State.{typed_locks}
use Rattle.wit_model.specs.Trace.Views.{held_lines}
use Rattle.wit_report.proofs.held.put_all.Given as goal

abbrev pub invariant-loop-instance : goal.invariant-loop-instance
invariant-loop-instance l =
    string_bytes l.text
    ≡ string_bytes l.initial.text ++ held_lines (typed_locks l.verifier.start l.verifier.history)
    l.verifier.files (take l.instance-index l.held)
