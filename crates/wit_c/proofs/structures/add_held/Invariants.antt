use Rattle.std.proofs.Common.{◌≡◌, ◌++◌, map, take}
use Rattle.wit_c.specs.Structures.{instance_told}
use Rattle.wit_c.proofs.structures.add_held.Given as goal

abbrev pub invariant-loop-instance : goal.invariant-loop-instance
invariant-loop-instance l =
    l.all.items
    ≡ l.initial.all.items ++ map (instance_told l.verifier) (take l.instance-index l.held)
