use Rattle.std.proofs.Common.{◌≡◌, ◌++◌, drop, string_bytes}
use Rattle.wit_model.specs.Rules.Circles.{seat_numbers}
use Rattle.wit_model.specs.Rules.State.{state_of}
use Rattle.wit_model.specs.Trace.Views.{wait_lines}
use Rattle.wit_report.proofs.circles.put_waits.Given as goal

-- what was written and what is still to come make the whole
abbrev pub invariant-loop-next : goal.invariant-loop-next
invariant-loop-next l =
    let s = state_of l.verifier in
    string_bytes l.text ++ wait_lines s l.seat.0
    (seat_numbers (drop l.next-index l.others)) l.first.0
    ≡ string_bytes l.initial.text ++ wait_lines s l.first.0 (seat_numbers l.others) l.first.0
