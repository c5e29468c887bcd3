use Rattle.std.proofs.Common.{◌<◌, length, reverse}
use Rattle.wit_circles.specs.Orders.{IsWayBy}
use Rattle.wit_circles.specs.Searching.{rows_of, Next, type_met}
use Rattle.wit_circles.proofs.search.way_back.Given as goal

abbrev pub invariant-loop-at : goal.invariant-loop-at
invariant-loop-at l = record {
  within : l.at < length l.met;
  back : IsWayBy (Next (rows_of l.rows)) (type_met l.met l.at) (reverse l.way.items) l.last;
}

abbrev pub decreases-loop-at : goal.decreases-loop-at
decreases-loop-at l = l.at
