use Rattle.std.proofs.Common.{◌≡◌, ◌++◌, string_bytes}
use Rattle.std.specs.List.{flat_map, range_with_len}
use Rattle.wit_state.specs.State.{items_of_seat}
use Rattle.wit_state.proofs.seats.put_seats.Given as goal

abbrev pub invariant-loop-place : goal.invariant-loop-place
invariant-loop-place l =
    string_bytes l.text ≡ string_bytes l.initial.text ++ flat_map (items_of_seat l.verifier)
    (range_with_len 1 l.place)
