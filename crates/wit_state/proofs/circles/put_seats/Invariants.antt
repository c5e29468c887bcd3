use Rattle.std.proofs.Common.{◌≡◌, ◌++◌, length, string_bytes}
use Rattle.wit_model.specs.Rules.Circles.{seat_numbers}
use Rattle.wit_state.specs.State.{seat_fields}
use Rattle.wit_state.proofs.circles.put_seats.Given as goal

-- the text, and the seats that are left, are what is to be written
abbrev pub invariant-loop-seat : goal.invariant-loop-seat
invariant-loop-seat l =
    string_bytes l.text ++ seat_fields (seat_numbers l.rest)
    ≡ string_bytes l.initial.text ++ seat_fields (seat_numbers l.seats)

abbrev pub decreases-loop-seat : goal.decreases-loop-seat
decreases-loop-seat l = length l.rest
