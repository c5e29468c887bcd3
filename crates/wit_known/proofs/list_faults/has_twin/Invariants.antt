use Rattle.std.proofs.Common.{◌≡◌, ◌-◌, drop}
use Rattle.wit_model.specs.Rules.Start.{has_twin}
use Rattle.wit_known.specs.Listed.{listed}
use Rattle.wit_known.proofs.list_faults.has_twin.Given as goal

abbrev pub invariant-loop-place : goal.invariant-loop-place
invariant-loop-place l = has_twin (listed (drop (l.place - 1) l.list)) ≡ has_twin (listed l.list)
