use Rattle.std.proofs.Common.{◌≡◌, map, take}
use Rattle.wit_known.specs.Listed.{listed}
use Rattle.wit_c.specs.Starts.{type_in}
use Rattle.wit_c.proofs.lists.list_in.Given as goal

abbrev pub invariant-loop-listed : goal.invariant-loop-listed
invariant-loop-listed l = listed l.all.items ≡ map type_in (take l.listed-index l.types)
