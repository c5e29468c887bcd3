use Rattle.std.proofs.Common.{string_bytes, arith}
use Rattle.wit_model.specs.Rules.State.{state_of}
use Rattle.wit_report.proofs.ViewLines.{wait-written}
use Rattle.wit_report.proofs.circles.put_wait.Goals as goal

pub returns : goal.returns
returns c =
    wait-written (string_bytes c.args.text.now) (state_of c.args.verifier.now) c.args.seat.0
    c.args.next.0 c.in_ok-push_str.ensures.bytes c.in_ok-put_number.ensures
    c.in_ok-push_str-2.ensures.bytes (rw c.asked_name.ensures at c.in_ok-put_quoted.ensures)
    c.in_ok-push_str-3.ensures.bytes c.in_ok-put_number-2.ensures
    (rw (c.push.ensures.ascii (omega arith)) at c.in_ok-push.ensures.bytes)
