use Rattle.std.proofs.Common.{◌+◌, ◌-◌, ◌≤◌}
use Rattle.wit_matrix.specs.Squares.{IsSquare}
use Rattle.wit_matrix.proofs.Joins.{RowsBelow}
use Rattle.wit_matrix.proofs.squares.join_rows.Given as goal

abbrev pub invariant-loop-row : goal.invariant-loop-row
invariant-loop-row l = record {
  positive : 1 ≤ l.row;
  square : IsSquare l.n l.words;
  joined : RowsBelow l.n l.mirror l.first.0 l.source.0 l.row l.initial.words l.words;
}

abbrev pub decreases-loop-row : goal.decreases-loop-row
decreases-loop-row l = l.n + 1 - l.row
