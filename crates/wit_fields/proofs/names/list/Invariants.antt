use Rattle.std.proofs.Common.{length}
use Rattle.wit_fields.proofs.ListReading.{Reads}
use Rattle.wit_fields.proofs.names.list.Given as goal

-- the types so far, and those of the rest, are the list
abbrev pub invariant-loop-rest : goal.invariant-loop-rest
invariant-loop-rest l = Reads l.bytes l.list l.rest

abbrev pub decreases-loop-rest : goal.decreases-loop-rest
decreases-loop-rest l = length l.rest
