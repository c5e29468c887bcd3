use Rattle.std.proofs.Common.{string_bytes}
use Rattle.wit_model.specs.Rules.State.{known_of}
use Rattle.wit_state.specs.State.{orders_from}
use Rattle.wit_report.proofs.Laid.{each_turn}
use Rattle.wit_state.proofs.orders.put_orders.Goals as goal

pub loop-place-preserved : goal.loop-place-preserved
loop-place-preserved c =
    let v = c.args.verifier.now in
    each_turn (orders_from (known_of v.start v.history) v.files) c.loop-place.place
    (string_bytes c.args.text.now) (string_bytes c.loop-place.text)
    (string_bytes c.put_orders_of.new.text) c.loop-place.invariant c.in_ok-put_orders_of.ensures
