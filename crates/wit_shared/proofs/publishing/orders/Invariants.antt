use Rattle.std.proofs.Common.{◌≡◌, map, take}
use Rattle.wit_model.specs.Rules.Orders.{taught_at}
use Rattle.wit_shared.proofs.publishing.orders.Given as goal

abbrev pub invariant-loop-pair : goal.invariant-loop-pair
invariant-loop-pair l = l.orders.items ≡ map (taught_at l.site) (take l.pair-index l.pairs)
