use Rattle.std.proofs.Common.{◌≡◌, ◌+◌, ◌∷◌, ◌++◌, List, drop, get_or, map, reverse, ap, sym, subst}
use Rattle.std.proofs.Common.{◌∙◌, arith}
use Rattle.std.proofs.lemmas.List.{get_or_default}
use Rattle.wit_model.specs.declared.locks.TypeNo.{TypeNo}
use Rattle.wit_model.specs.declared.calls.Adoption.{Adoption}
use Rattle.wit_model.specs.Rules.Orders.{taught_at}
use Rattle.wit_known.specs.Following.{CanFollow, CanAllFollow}
use Rattle.wit_known.specs.Ordering.{Ordering}
use Rattle.wit_known.proofs.Enrolling.{orders-alone}
use Rattle.wit_known.proofs.Following.{no-pair, next-follows, rest-follow, adds-next}
use Rattle.wit_known.proofs.orders.Orders.adopt_all.Goals as goal

pub adopt-requires-clause-follows : goal.adopt-requires-clause-follows
adopt-requires-clause-follows c =
    let pairs = c.args.pairs.now in
    let i = c.loop-place.place in
    let lt = c.loop-place-test.true in
    subst (λ (o : Adoption). CanFollow c.loop-place.self.size c.loop-place.self.orders
    o.parent.0 o.child.0)
    (sym (c.taught_at.ensures ∙ ap (taught_at c.args.site) (get_or_default pairs i _ no-pair lt)))
    (next-follows c.loop-place.self.size pairs i (get_or pairs i no-pair) lt
    (get_or_default pairs i no-pair (get_or pairs i no-pair) lt)
    c.loop-place.self.orders c.loop-place.invariant.can)

pub loop-place-preserved : goal.loop-place-preserved
loop-place-preserved c =
    let pairs = c.args.pairs.now in
    let i = c.loop-place.place in
    let lt = c.loop-place-test.true in
    let x : TypeNo × TypeNo = get_or pairs i no-pair in
    let is : x ≡ get_or pairs i x = get_or_default pairs i no-pair x lt in
    let orders : c.adopt.new.self.orders ≡ taught_at c.args.site x ∷ c.loop-place.self.orders =
    ap (λ (r : Ordering). r.orders) c.adopt.ensures.adopted
    ∙ ap (λ (o : Adoption). o ∷ c.loop-place.self.orders)
    (c.taught_at.ensures ∙ ap (taught_at c.args.site) (get_or_default pairs i _ no-pair lt)) in
    let size = ap (λ (r : Ordering). r.size) c.adopt.ensures.adopted in
    let room = c.loop-place.invariant.room in
    let less = c.adopt.ensures.room in
    record {
      adopts =
          ap (λ (os : List Adoption). reverse (map (taught_at c.args.site) (drop (i + 1) pairs))
          ++ os) orders
          ∙ adds-next c.loop-place.self.size pairs i x lt is c.loop-place.self.orders c.args.site
          ∙ c.loop-place.invariant.adopts;
      can =
          subst (λ (os : List Adoption). CanAllFollow c.adopt.new.self.size os (drop (i + 1) pairs))
          (sym orders)
          (subst (λ n. CanAllFollow n (taught_at c.args.site x ∷ c.loop-place.self.orders)
          (drop (i + 1) pairs)) (sym size)
          (rest-follow c.loop-place.self.size pairs i x lt is c.loop-place.self.orders c.args.site
          c.loop-place.invariant.can));
      room = omega (arith, room, less);
      rest =
          orders-alone c.args.self.now c.loop-place.self c.adopt.new.self _ c.adopt.ensures.adopted
          c.loop-place.invariant.rest;
    }
