use Rattle.std.proofs.Common.{◌≡◌}
use Rattle.wit_gates.specs.Claims.{unmatched}
use Rattle.wit_gates.proofs.Steps.{claims, Is}
use Rattle.wit_gates.proofs.word.Word.try_share.Given as goal

-- the seat is of this word, and knows what was found
abbrev pub invariant-loop : goal.invariant-loop
invariant-loop g l =
    (l.seat.table_id ≡ l.fn.self)
    × Is l.seat.me (claims (unmatched l.found))
