use Rattle.std.proofs.Common.{◌≡◌, None, replicate}
use Rattle.wit_waiting.proofs.seats.no_requests.Given as goal

abbrev pub invariant-loop-seat : goal.invariant-loop-seat
invariant-loop-seat l = l.requests.items ≡ replicate l._seat None
