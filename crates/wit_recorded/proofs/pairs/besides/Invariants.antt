use Rattle.std.proofs.Common.{◌-◌, length}
use Rattle.wit_recorded.specs.declared.lines.TheConstants.{MOST_BESIDES}
use Rattle.wit_recorded.proofs.Others.{Reads}
use Rattle.wit_recorded.proofs.pairs.besides.Given as goal

-- the locks so far, and those of the rest, are those of the bytes
abbrev pub invariant-loop-rest : goal.invariant-loop-rest
invariant-loop-rest l = Reads l.bytes l.besides.items l.rest

abbrev pub decreases-loop-rest : goal.decreases-loop-rest
decreases-loop-rest l = MOST_BESIDES - length l.besides.items
