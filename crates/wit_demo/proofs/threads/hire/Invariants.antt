use Rattle.std.proofs.Common.{◌≡◌, ◌≤◌, vec_len, vec_capacity}
use Rattle.wit_demo.proofs.threads.hire.Given as goal

abbrev pub invariant-loop : goal.invariant-loop
invariant-loop g l = (vec_len l.seats ≡ l.counter) × (6 ≤ vec_capacity l.seats)
