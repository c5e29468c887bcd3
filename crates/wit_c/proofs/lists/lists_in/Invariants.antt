use Rattle.std.proofs.Common.{◌≡◌, take}
use Rattle.wit_known.specs.Listed.{all_listed}
use Rattle.wit_c.specs.Starts.{lists_in}
use Rattle.wit_c.proofs.lists.lists_in.Given as goal

abbrev pub invariant-loop-list : goal.invariant-loop-list
invariant-loop-list l = all_listed l.all.items ≡ lists_in (take l.list-index l.lists)
