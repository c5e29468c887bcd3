use Rattle.std.proofs.Common.{refl, ◌∙◌, subst, arith}
use Rattle.wit_circles.specs.declared.orders.Order.{Order}
use Rattle.wit_circles.specs.Keeping.{TellsBack}
use Rattle.wit_circles.proofs.OneByOne.{judging_all, judging_kept, judging_told}
use Rattle.wit_circles.proofs.judging.judge.Goals as goal
use Rattle.wit_circles.proofs.judging.judge.Goals.{in-Some+in_ok-push-in-Some, in-None+in_ok-keep-in-None}

abbrev none : Order
none = record { from = 0; to = 0 }

pub loop-order-preserved : goal.loop-order-preserved
loop-order-preserved c =
    let orders = c.args.orders.now in
    let i = c.loop-order.order-index in
    let old = c.loop-order.kept in
    let told = c.loop-order.told.items in
    let is = c.loop-order.invariant.judging in
    elim c.match-branch-3.branch [
      | in-Some+in_ok-push-in-Some w ↦
          rw (w.kept-is, w.told-is)
          (record {
            size = c.loop-order.invariant.size;
            judging =
                rw w.in_ok-push-in-Some.ensures.items
                (judging_told orders i told _ none c.loop-order-test.true refl old is _ refl
                (subst (TellsBack is.known _) w.in-Some.is (c.in_ok-way.ensures is.known is.so)));
          })
      | in-None+in_ok-keep-in-None w ↦
          rw (w.kept-is, w.told-is)
          (record {
            size = w.in_ok-keep-in-None.ensures.size ∙ c.loop-order.invariant.size;
            judging =
                judging_kept orders i told _ none c.loop-order-test.true refl old w.keep.new.self is
                (subst (TellsBack is.known _) w.in-None.is (c.in_ok-way.ensures is.known is.so))
                (w.in_ok-keep-in-None.ensures.kept is.known is.so);
          })
    ]

pub returns : goal.returns
returns c =
    judging_all c.args.orders.now c.loop-order.order-index c.loop-order.kept
    c.loop-order.told.items c.loop-order.invariant.judging
    (omega (arith, c.loop-order-test.false))
