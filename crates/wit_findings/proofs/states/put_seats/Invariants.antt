use Rattle.std.proofs.Common.{◌≡◌, ◌++◌}
use Rattle.std.specs.List.{flat_map, range_with_len}
use Rattle.wit_findings.specs.States.{seat_text}
use Rattle.wit_findings.specs.Told.{told}
use Rattle.wit_findings.proofs.states.put_seats.Given as goal

abbrev pub invariant-loop-place : goal.invariant-loop-place
invariant-loop-place l =
    l.text.items ≡ l.initial.text.items ++ flat_map (seat_text (told l.known))
    (range_with_len 1 l.place)
