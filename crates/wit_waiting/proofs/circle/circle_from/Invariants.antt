use Rattle.std.proofs.Common.{◌≤◌, length}
use Rattle.wit_waiting.specs.Searching.{table_of, IsSearch, AreClosed}
use Rattle.wit_waiting.proofs.circle.circle_from.Given as goal

abbrev pub invariant-loop-place : goal.invariant-loop-place
invariant-loop-place l = record {
  search : IsSearch (table_of l.rows) l.first.0 l.reached.items l.seen.items;
  closed : AreClosed (table_of l.rows) l.first.0 l.reached.items l.seen.items l.place;
  within : l.place ≤ length l.reached.items;
}
