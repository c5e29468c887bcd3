use Rattle.std.proofs.Common.{◌≡◌, List, ◌++◌, vec_len}
use Rattle.wit_seats.specs.declared.views.SeatKnowledge.{SeatKnowledge}
use Rattle.wit_shared.specs.Closing.{AreLeft}
use Rattle.wit_shared.proofs.closing.settle_all.Given as goal

abbrev pub invariant-loop-seat : goal.invariant-loop-seat
invariant-loop-seat g l = record {
  kept : l.keeper ≡ l.initial.keeper;
  settled : (done : List SeatKnowledge) × (l.seats.items ++ done ≡ l.fn.seats.items)
      × AreLeft l.verifier done;
}

abbrev pub decreases-loop-seat : goal.decreases-loop-seat
decreases-loop-seat g l = vec_len l.seats
