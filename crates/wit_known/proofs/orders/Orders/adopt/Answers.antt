use Rattle.std.proofs.Common.{◌≡◌, length, sym, ◌∙◌, subst, arith}
use Rattle.wit_known.specs.Ordering.{Ordering}
use Rattle.wit_known.specs.Following.{CanFollow}
use Rattle.wit_known.proofs.Relating.{before-by, related-adopted}
use Rattle.wit_known.proofs.orders.Orders.adopt.Goals as goal

pub adopt-requires-clause-orderly : goal.adopt-requires-clause-orderly
adopt-requires-clause-orderly c =
    before-by c.self.inside c.self.invariant c.args.self.now c.self.view_is c.args.order.child.0
    c.args.order.parent.0 ∙ c.requires.follows.orderly

pub invariant_of-self : goal.invariant_of-self
invariant_of-self c =
    let count : c.len-place.result ≡ length c.self.inside.adopted.items =
    omega (arith, c.len-place.ensures, c.self.inside.adopted.ok.0) in
    related-adopted c.self.inside (record {
      adopted = c.push_reserved.new.self;
      matrix = c.adopt.new.self;
      places = c.insert.new.self;
    }) c.args.order c.self.invariant
    (subst (λ (r : Ordering). CanFollow r.size r.orders c.args.order.parent.0 c.args.order.child.0)
    (sym c.self.view_is) c.requires.follows)
    c.push_reserved.ensures.items c.adopt.ensures.adopted
    (rw (c.unwrap-new.ensures, count) at c.insert.ensures.updates).0
