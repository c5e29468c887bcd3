use Rattle.std.proofs.Common.{◌≡◌, ◌++◌, filter, string_bytes}
use Rattle.std.specs.List.{flat_map, range_with_len}
use Rattle.wit_model.specs.Rules.Orders.{is_direct}
use Rattle.wit_model.specs.Rules.State.{known_of}
use Rattle.wit_state.specs.State.{order_item}
use Rattle.wit_state.proofs.orders.put_orders_of.Given as goal

abbrev pub invariant-loop-place : goal.invariant-loop-place
invariant-loop-place l =
    let k = known_of l.verifier.start l.verifier.history in
    string_bytes l.text ≡ string_bytes l.initial.text ++ flat_map
    (order_item k l.verifier.files l.parent.0)
    (filter (is_direct k.orders l.parent.0) (range_with_len 1 l.place))
