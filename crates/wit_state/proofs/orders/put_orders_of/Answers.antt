use Rattle.std.proofs.Common.{◌∙◌, sym, string_bytes}
use Rattle.wit_model.specs.Rules.Orders.{is_direct}
use Rattle.wit_model.specs.Rules.State.{known_of}
use Rattle.wit_state.specs.State.{order_item}
use Rattle.wit_report.proofs.Laid.{some_turn, some_skip}
use Rattle.wit_state.proofs.orders.put_orders_of.Goals as goal
use Rattle.wit_state.proofs.orders.put_orders_of.Goals.{then-is_direct+in_ok-put_order, else-is_direct}

pub loop-place-preserved : goal.loop-place-preserved
loop-place-preserved c =
    let v = c.args.verifier.now in
    let k = known_of v.start v.history in
    let parent = c.args.parent.0 in
    let place = c.loop-place.place in
    let before = string_bytes c.args.text.now in
    let now = string_bytes c.loop-place.text in
    elim c.if-is_direct.branch [
      | then-is_direct+in_ok-put_order w ↦
          rw w.text-is
          (some_turn (is_direct k.orders parent) (order_item k v.files parent) place before now _
          (sym c.is_direct.ensures ∙ w.if-is_direct.true) c.loop-place.invariant
          w.in_ok-put_order.ensures)
      | else-is_direct w ↦
          rw w.text-is (some_skip (is_direct k.orders parent) (order_item k v.files parent) place
          before now (sym c.is_direct.ensures ∙ w.if-is_direct.false) c.loop-place.invariant)
    ]
