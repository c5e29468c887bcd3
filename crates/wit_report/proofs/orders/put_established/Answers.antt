use Rattle.std.proofs.Common.{string_bytes}
use Rattle.wit_model.specs.Rules.State.{known_of}
use Rattle.wit_report.proofs.Written.{established-written}
use Rattle.wit_report.proofs.orders.put_established.Goals as goal

pub returns-in_ok-put_orders-in-Ok-Some : goal.returns-in_ok-put_orders-in-Ok-Some
returns-in_ok-put_orders-in-Ok-Some c =
    let v = c.args.verifier.now in
    established-written (string_bytes c.args.text.now)
    (known_of v.start v.history) v.files c.deref.result.now c.in-Ok-Some.path.items _
    (rw c.in-Ok-Some.field-0-is at c.in-Ok-Some.ensures.ok)
    c.in_ok-push_str-in-Ok-Some.ensures.bytes c.deref.ensures.value
    c.in_ok-put_orders-in-Ok-Some.ensures
