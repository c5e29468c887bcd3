use Rattle.std.proofs.Common.{◌≡◌, ◌≤◌, ◌+◌, length, take}
use Rattle.wit_model.specs.Rules.Types.{enrolled_all}
use Rattle.wit_known.specs.Listed.{listed}
use Rattle.wit_known.proofs.list_faults.types_with.Given as goal

abbrev pub invariant-loop-place : goal.invariant-loop-place
invariant-loop-place l =
    (l.count ≡ length (enrolled_all (listed (take l.place l.list)) l.names.types))
    × (l.count ≤ length l.names.types + l.place)
