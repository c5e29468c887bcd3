use Rattle.std.proofs.Common.{◌≡◌, length}
use Rattle.wit_circles.proofs.OneByOne.{IsJudging}
use Rattle.wit_circles.proofs.judging.judge.Given as goal

abbrev pub invariant-loop-order : goal.invariant-loop-order
invariant-loop-order l = record {
  size : length l.kept.rows.items ≡ l.types;
  judging : IsJudging l.orders l.order-index l.kept l.told.items;
}
