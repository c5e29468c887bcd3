use Rattle.std.proofs.Common.{◌≡◌, ◌++◌, take, string_bytes}
use Rattle.wit_state.specs.State.{held_items}
use Rattle.wit_state.proofs.seats.put_all_held.Given as goal

abbrev pub invariant-loop-instance : goal.invariant-loop-instance
invariant-loop-instance l =
    string_bytes l.text
    ≡ string_bytes l.initial.text ++ held_items l.verifier.files l.seat.0
    (take l.instance-index l.held)
