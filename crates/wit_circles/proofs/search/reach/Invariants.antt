use Rattle.wit_circles.specs.Searching.{rows_of, Reaches}
use Rattle.wit_circles.proofs.search.reach.Given as goal

abbrev pub invariant-loop-of : goal.invariant-loop-of
invariant-loop-of l =
    Reaches (rows_of l.rows) l.first l.last l.of-index l.next l.initial.met.items l.met.items
    l.initial.marks l.marks
