use Rattle.std.proofs.Common.{length, sym, ap, ◌∙◌, arith}
use Rattle.wit_observers.proofs.Looking.{told_all}
use Rattle.wit_observers.proofs.publisher.Publisher.news.Goals as goal

pub invariant_of-result : goal.invariant_of-result
invariant_of-result g c =
    let inv = c.self.invariant in
    let few = inv.1.few in
    let all = ap length inv.2 in
    let front = ap length c.front.ensures in (
      omega (arith, few, all, front),
      told_all c.free_place-place.result
          (λ p. p.place.me.0.client) _ c.front.result c.free_place-place.ensures.told
          (inv.3 ∙ sym c.front.ensures),
    )
