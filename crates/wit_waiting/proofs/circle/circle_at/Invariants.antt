use Rattle.wit_model.specs.Rules.Circles.{seat_numbers}
use Rattle.wit_waiting.specs.Searching.{table_of}
use Rattle.wit_waiting.proofs.Ways.{IsWay}
use Rattle.wit_waiting.proofs.circle.circle_at.Given as goal

abbrev pub invariant-loop-at : goal.invariant-loop-at
invariant-loop-at l = IsWay (table_of l.rows) l.reached (seat_numbers l.circle.items) l.at

abbrev pub decreases-loop-at : goal.decreases-loop-at
decreases-loop-at l = l.at
