use Rattle.std.proofs.Common.{◌∙◌, string_bytes, arith, refl}
use Rattle.wit_model.specs.Rules.State.{known_of}
use Rattle.wit_report.proofs.Written.{line-turn}
use Rattle.wit_report.proofs.orders.put_orders_from.Goals as goal

pub loop-child-preserved : goal.loop-child-preserved
loop-child-preserved c =
    let v = c.args.verifier.now in
    line-turn (known_of v.start v.history) v.files c.args.others.now c.loop-child.child-index
    c.loop-child.parent _ (record { 0 = 0 })
    (string_bytes c.loop-child.text) (string_bytes c.put_order.new.text)
    (omega arith) refl c.in_ok-put_order.ensures
    ∙ c.loop-child.invariant
