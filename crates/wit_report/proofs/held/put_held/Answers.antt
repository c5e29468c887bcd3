use Rattle.std.proofs.Common.{string_bytes, arith}
use Rattle.wit_model.specs.Rules.State.{typed_locks}
use Rattle.wit_report.proofs.HeldLines.{held-written}
use Rattle.wit_report.proofs.held.put_held.Goals as goal

pub returns : goal.returns
returns c =
    let v = c.args.verifier.now in
    held-written (string_bytes c.args.text.now) (typed_locks v.start v.history) v.files c.args.held
    (rw c.mode_words.ensures at c.in_ok-push_str.ensures.bytes)
    (rw (c.push.ensures.ascii (omega arith)) at c.in_ok-push.ensures.bytes)
    (rw (c.class_words.ensures, c.class_of_lock.ensures) at c.in_ok-push_str-2.ensures.bytes)
    (rw (c.push-2.ensures.ascii (omega arith)) at c.in_ok-push-2.ensures.bytes)
    (rw c.lock_name.ensures at c.in_ok-put_quoted.ensures) c.in_ok-push_str-3.ensures.bytes
    (rw c.type_name.ensures at c.in_ok-push_str-4.ensures.bytes) c.in_ok-push_str-5.ensures.bytes
    c.in_ok-put_number.ensures c.in_ok-push_str-6.ensures.bytes
    c.in_ok-put_site.ensures (rw (c.push-3.ensures.ascii (omega arith)) at
    c.in_ok-push-3.ensures.bytes)
