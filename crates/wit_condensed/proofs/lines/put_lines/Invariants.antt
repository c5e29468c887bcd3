use Rattle.wit_condensed.proofs.Putting.{IsPut}
use Rattle.wit_condensed.proofs.lines.put_lines.Given as goal

abbrev pub invariant-links : goal.invariant-links
invariant-links l = IsPut l.links l.initial.lines l.i l.count l.lines
