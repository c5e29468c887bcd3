use Rattle.std.proofs.Common.{◌≡◌, drop, List}
use Rattle.wit_model.specs.declared.locks.TypeNo.{TypeNo}
use Rattle.wit_model.specs.Rules.Verdict.{orders_behind}
use Rattle.wit_check.specs.Meets.{with_parents}
use Rattle.wit_check.proofs.learning.learn.Given as goal

abbrev pub invariant-loop-place : goal.invariant-loop-place
invariant-loop-place l =
    (parents : List TypeNo) → l.fn.learnt ≡ orders_behind l.request parents
    → l.learnt ≡ orders_behind l.request
    (with_parents l.basis l.request (drop l.place l.chunk) parents)
