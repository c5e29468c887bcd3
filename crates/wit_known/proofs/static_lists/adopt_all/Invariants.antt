use Rattle.std.proofs.Common.{◌≡◌, ◌-◌, drop}
use Rattle.wit_model.specs.Rules.Orders.{listed_pairs}
use Rattle.wit_known.specs.Listed.{listed, CanBeAdopted}
use Rattle.wit_known.proofs.static_lists.adopt_all.Given as goal

abbrev pub invariant-loop-place : goal.invariant-loop-place
invariant-loop-place l = record {
  pairs : listed_pairs l.names.types (listed (drop (l.place - 1) l.list)) l.orders.orders
      ≡ listed_pairs l.names.types (listed l.list) l.initial.orders.orders;
  can : CanBeAdopted l.names.types l.orders.orders (listed (drop (l.place - 1) l.list));
  rest : l.orders ≡ record l.initial.orders { orders = l.orders.orders; spare = l.orders.spare };
}
