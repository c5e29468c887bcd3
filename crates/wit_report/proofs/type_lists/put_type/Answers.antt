use Rattle.std.proofs.Common.{string_bytes, arith}
use Rattle.wit_model.specs.Rules.State.{state_of, types_of, live}
use Rattle.wit_report.proofs.ViewLines.{type-written}
use Rattle.wit_report.proofs.type_lists.put_type.Goals as goal

pub returns : goal.returns
returns c =
    let v = c.args.verifier.now in
    type-written (string_bytes c.args.text.now) (types_of v.start v.history)
    (live (state_of v)) c.args.number.0 c.in_ok-put_number.ensures
    (rw (c.push.ensures.ascii (omega arith)) at c.in_ok-push.ensures.bytes)
    (rw c.type_words.ensures at c.in_ok-put_quoted.ensures)
    (rw (c.push-2.ensures.ascii (omega arith)) at c.in_ok-push-2.ensures.bytes)
    (rw (c.class_words.ensures, c.type_class.ensures) at c.in_ok-push_str.ensures.bytes)
    c.in_ok-push_str-2.ensures.bytes (rw c.live_locks.ensures at c.in_ok-put_number-2.ensures)
    (rw (c.push-3.ensures.ascii (omega arith)) at c.in_ok-push-3.ensures.bytes)
