use Rattle.std.proofs.Common.{◌≡◌, ◌+◌, ◌≤◌, ◌++◌, drop, length, map, reverse}
use Rattle.wit_model.specs.Rules.Orders.{taught_at}
use Rattle.wit_known.specs.Following.{CanAllFollow}
use Rattle.wit_known.proofs.orders.Orders.adopt_all.Given as goal

abbrev pub invariant-loop-place : goal.invariant-loop-place
invariant-loop-place l = record {
  adopts : reverse (map (taught_at l.site) (drop l.place l.pairs)) ++ l.self.orders
      ≡ reverse (map (taught_at l.site) l.pairs) ++ l.fn.self.orders;
  can : CanAllFollow l.self.size l.self.orders (drop l.place l.pairs);
  room : length l.pairs ≤ l.self.spare + l.place;
  rest : l.self ≡ record l.fn.self { orders = l.self.orders; spare = l.self.spare };
}
