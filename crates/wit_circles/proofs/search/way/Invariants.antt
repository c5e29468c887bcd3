use Rattle.std.proofs.Common.{◌≤◌, length}
use Rattle.wit_circles.specs.Searching.{rows_of, IsSearch, AreClosed}
use Rattle.wit_circles.proofs.search.way.Given as goal

abbrev pub invariant-loop-place : goal.invariant-loop-place
invariant-loop-place l = record {
  search : IsSearch (rows_of l.rows) l.first l.last l.met.items l.marks.items;
  closed : AreClosed (rows_of l.rows) l.met.items l.marks.items l.place;
  within : l.place ≤ length l.met.items;
}
