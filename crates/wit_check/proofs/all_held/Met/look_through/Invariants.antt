use Rattle.std.proofs.Common.{◌≡◌, drop}
use Rattle.wit_check.specs.Meets.{with_all_met}
use Rattle.wit_check.proofs.all_held.Met.look_through.Given as goal

abbrev pub invariant-loop-place : goal.invariant-loop-place
invariant-loop-place l = l.self ≡ with_all_met l.basis l.request (drop l.place l.chunk) l.fn.self
