use Rattle.std.proofs.Common.{◌≡◌, drop}
use Rattle.wit_check.specs.Looks.{with_locks}
use Rattle.wit_check.proofs.held.Seen.look_through.Given as goal

abbrev pub invariant-loop-place : goal.invariant-loop-place
invariant-loop-place l = l.self ≡ with_locks l.basis l.request (drop l.place l.chunk) l.fn.self
