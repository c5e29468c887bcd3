use Rattle.wit_waiting.specs.Searching.{table_of, Reaches}
use Rattle.wit_waiting.proofs.circle.reach.Given as goal

abbrev pub invariant-loop-index : goal.invariant-loop-index
invariant-loop-index l =
    Reaches (table_of l.rows) l.fn.first.0 l.place l.index l.initial.reached.items l.reached.items
    l.initial.seen l.seen
