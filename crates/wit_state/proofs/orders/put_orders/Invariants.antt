use Rattle.std.proofs.Common.{◌≡◌, ◌++◌, string_bytes}
use Rattle.std.specs.List.{flat_map, range_with_len}
use Rattle.wit_model.specs.Rules.State.{known_of}
use Rattle.wit_state.specs.State.{orders_from}
use Rattle.wit_state.proofs.orders.put_orders.Given as goal

abbrev pub invariant-loop-place : goal.invariant-loop-place
invariant-loop-place l =
    string_bytes l.text ≡ string_bytes l.initial.text ++ flat_map
    (orders_from (known_of l.verifier.start l.verifier.history) l.verifier.files)
    (range_with_len 1 l.place)
