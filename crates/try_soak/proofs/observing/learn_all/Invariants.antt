use Rattle.std.proofs.Common.{◌≡◌}
use Rattle.try_soak.proofs.observing.learn_all.Given as goal

abbrev pub invariant-loop-pair : goal.invariant-loop-pair
invariant-loop-pair g l = l.worker.seat.seat ≡ l.fn.worker.seat.seat
