use Rattle.std.proofs.Common.{◌+◌, ◌-◌, ap, ◌∙◌, arith, List}
use Rattle.wit_known.specs.Ordering.{Ordering}
use Rattle.wit_model.specs.declared.calls.Adoption.{Adoption}
use Rattle.wit_known.proofs.Listing.{adopt-step, adopt-end}
use Rattle.wit_known.proofs.Enrolling.{follows-at, adopts-step, orders-alone}
use Rattle.wit_known.proofs.static_lists.adopt_all.Goals as goal

pub adopt_once-requires : goal.adopt_once-requires
adopt_once-requires c =
    follows-at c.args.names.now.types c.args.list.now (c.loop-place.place - 1) c.loop-place.place
    c.index-list-place.result c.index-list-place-in-loop-place.result
    c.number_of-parent.result.0 c.number_of-child.result.0 c.loop-place.orders.orders
    (omega arith) (omega arith) c.index-list-place.is c.index-list-place-in-loop-place.is
    c.number_of-parent.ensures c.number_of-child.ensures c.loop-place.invariant.can
    c.loop-place.orders.size (let e = ap (λ (r : Ordering). r.size) c.loop-place.invariant.rest in
    omega (arith, e, c.requires.few))

pub loop-place-preserved : goal.loop-place-preserved
loop-place-preserved c =
    let types = c.args.names.now.types in
    let list = c.args.list.now in
    let orders = c.loop-place.orders in
    let new = c.adopt_once.new.orders in
    let is = ap (λ (r : Ordering). r.orders) c.in_ok-adopt_once.ensures.ok in
    record {
      pairs =
          adopt-step types list (c.loop-place.place - 1) c.loop-place.place
          (c.loop-place.place + 1 - 1) c.index-list-place.result
          c.index-list-place-in-loop-place.result
          c.number_of-parent.result.0 c.number_of-child.result.0 orders.orders new.orders _
          (omega arith) (omega arith) (omega arith) c.index-list-place.is
          c.index-list-place-in-loop-place.is c.number_of-parent.ensures
          c.number_of-child.ensures
          is c.loop-place.invariant.pairs;
      can =
          adopts-step types list (c.loop-place.place - 1) c.loop-place.place
          c.index-list-place.result c.index-list-place-in-loop-place.result
          c.number_of-parent.result.0 c.number_of-child.result.0 orders.orders
          (omega arith) (omega arith) c.index-list-place.is c.index-list-place-in-loop-place.is
          c.number_of-parent.ensures c.number_of-child.ensures c.loop-place.invariant.can
          (c.loop-place.place + 1 - 1) new.orders (omega arith) is;
      rest =
          orders-alone c.args.orders.now orders new _ c.in_ok-adopt_once.ensures.ok
          c.loop-place.invariant.rest;
    }

pub returns-clause-ok : goal.returns-clause-ok
returns-clause-ok c =
    c.loop-place.invariant.rest
    ∙ ap (λ (os : List Adoption). record c.args.orders.now {
      orders = os;
      spare = c.loop-place.orders.spare;
    })
    (adopt-end c.args.names.now.types c.args.list.now (c.loop-place.place - 1)
    c.loop-place.orders.orders _ (omega arith) c.loop-place.invariant.pairs)
