use Rattle.std.proofs.Common.{◌≡◌, ◌++◌, string_bytes, take}
use Rattle.wit_demo.specs.Demonstration.{reports_text}
use Rattle.wit_demo.proofs.telling.put_reports.Given as goal

abbrev pub invariant-loop-entry : goal.invariant-loop-entry
invariant-loop-entry l =
    string_bytes l.text
    ≡ string_bytes l.initial.text ++ reports_text l.verifier (take l.entry-index l.entry-items)
