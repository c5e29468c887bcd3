use Rattle.std.proofs.Common.{◌+◌, subst, ◌<◌, arith, refl, sym, length, Option, None}
use Rattle.std.specs.Global.{Vec}
use Rattle.wit_model.specs.declared.locks.SeatNo.{SeatNo}
use Rattle.wit_waiting.specs.Searching.{table_of, IsSearch, IsClosing, Reaches, AreClosed}
use Rattle.wit_waiting.proofs.Reaching.{begins, reached-few, marks-back}
use Rattle.wit_waiting.proofs.WaitTables.{rows-many}
use Rattle.wit_waiting.proofs.Ways.{closed_more, no_circle}
use Rattle.wit_waiting.proofs.circle.circle_from.Goals as goal

pub loop-place-init : goal.loop-place-init
loop-place-init c = record {
  search =
      begins c.args.rows.now c.args.first c.push.new.self.items _ c.in_ok-seen.seen.items _
      c.requires.first refl
      (rw c.new-reached.ensures.items at c.in_ok-push.ensures.items)
      (c.in_ok-seen.ensures.items_if_clones_equal (λ y same. same)) refl;
  closed = λ i below. absurd (omega (arith, below));
  within = omega arith;
}

pub returns-then-place-len : goal.returns-then-place-len
returns-then-place-len c =
    no_circle (table_of c.args.rows.now) c.args.first.0 c.loop-place.place
    c.loop-place.reached.items c.loop-place.seen.items c.loop-place.invariant.search
    c.loop-place.invariant.closed (omega (arith, c.len.ensures, c.loop-place.reached.ok.0))

pub loop-place-preserved : goal.loop-place-preserved
loop-place-preserved c =
    let rows = table_of c.args.rows.now in
    let first = c.args.first.0 in
    let place = c.loop-place.place in
    let old = c.loop-place.reached.items in
    let new = c.reach.new.reached.items in
    let s = c.loop-place.invariant.search in
    let r : Reaches rows first place (length c.args.rows.now) old new c.loop-place.seen.items
    c.reach.new.seen = rw c.deref_mut.ensures.value at c.in_ok-reach.ensures in
    let at : place < length old =
    omega (arith, c.len.ensures, c.loop-place.reached.ok.0, c.if-place-len.false) in
    let closing : IsClosing rows old place None =
    subst (λ (o : Option (Vec SeatNo)). IsClosing rows old place o) c.in_default.is
    (rw c.deref.ensures.value at c.in_ok-circle.ensures) in
    let same =
    marks-back c.loop-place.seen.len c.reach.new.seen c.loop-place.seen.items
    (omega (arith, c.loop-place.seen.ok.0)) (omega (arith, r.search.size, s.size)) in
    record {
      search = subst (λ marks. IsSearch rows first new marks) (sym same) r.search;
      closed =
          subst (λ marks. AreClosed rows first new marks (place + 1)) (sym same)
          (closed_more rows first place (length c.args.rows.now) old new c.loop-place.seen.items
          c.reach.new.seen c.requires.table s at
          c.loop-place.invariant.closed closing (sym (rows-many c.args.rows.now)) r);
      within = omega (arith, at, r.keeps.longer);
    }

pub returns : goal.returns
returns c =
    no_circle (table_of c.args.rows.now) c.args.first.0 c.loop-place.place
    c.loop-place.reached.items c.loop-place.seen.items c.loop-place.invariant.search
    c.loop-place.invariant.closed
    (omega (
      arith,
      rows-many c.args.rows.now,
      reached-few (table_of c.args.rows.now) c.args.first.0
          c.loop-place.reached.items c.loop-place.seen.items c.loop-place.invariant.search,
    ))
