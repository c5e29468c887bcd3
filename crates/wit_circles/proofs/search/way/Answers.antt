use Rattle.std.specs.Global.{Vec}
use Rattle.std.proofs.Common.{◌≡◌, ℕ, ◌<◌, ◌+◌, length, get_or, sym, ap, ◌∙◌, subst, arith, refl, List, Bool, replicate, false}
use Rattle.wit_circles.specs.declared.search.Met.{Met}
use Rattle.wit_circles.specs.Searching.{rows_of, row, type_met, IsSearch, AreClosed, Reaches}
use Rattle.wit_circles.proofs.Ahead.{closed_more, no-way}
use Rattle.wit_circles.proofs.Meeting.{begins, met-few, type-read, marks-back}
use Rattle.wit_circles.proofs.Rows.{rows-many, row-items}
use Rattle.wit_circles.proofs.search.way.Goals as goal

-- the row of the type at a place
here : {first last : ℕ} {marks : List Bool} (rows : List (Vec ℕ)) (met : List Met) (place : ℕ)
    (x : Met) (r : Vec ℕ) → IsSearch (rows_of rows) first last met marks → place < length met
    → x ≡ get_or met place x → r ≡ get_or rows x.of r
    → row (rows_of rows) (type_met met place) ≡ r.items
here rows met place x r s at read own =
    let of = type-read met place x at read in
    ap (row (rows_of rows)) (sym of)
    ∙ row-items rows x.of r
    (omega (arith, of, s.trail.types place at, rows-many rows)) own

pub loop-place-init : goal.loop-place-init
loop-place-init c = record {
  search =
      begins (rows_of c.args.rows.now) c.args.first c.args.last c.push.new.self.items _ _
      c.in_ok-marks.marks.items (omega (arith, c.requires.first, rows-many c.args.rows.now))
      c.if-first-last.false refl
      (rw c.new-met.ensures.items at c.in_ok-push.ensures.items)
      (c.in_ok-marks.ensures.items_if_clones_equal (λ y same. same)
      ∙ ap (λ n. replicate n false) (sym (rows-many c.args.rows.now))) refl;
  closed = λ i below. absurd (omega (arith, below));
  within = omega arith;
}

pub returns-then-place-len : goal.returns-then-place-len
returns-then-place-len c =
    no-way (rows_of c.args.rows.now) c.args.first c.args.last c.loop-place.place
    c.loop-place.met.items c.loop-place.marks.items c.loop-place.invariant.search
    c.loop-place.invariant.closed (omega (arith, c.if-place-len.true, c.len.ensures, c.loop-place.met.ok.0))

pub bounds-rows-index : goal.bounds-rows-index
bounds-rows-index c =
    let s = c.loop-place.invariant.search in
    let at : c.loop-place.place < length c.loop-place.met.items =
    omega (arith, c.len.ensures, c.loop-place.met.ok.0, c.if-place-len.false) in
    omega (
      arith,
      rows-many c.args.rows.now,
      s.trail.types c.loop-place.place at,
      type-read c.loop-place.met.items c.loop-place.place c.index.result.now at c.index.ensures,
    )

pub way_back-requires-clause-next : goal.way_back-requires-clause-next
way_back-requires-clause-next c =
    let rows = c.args.rows.now in
    let place = c.loop-place.place in
    let old = c.loop-place.met.items in
    let at : place < length old =
    omega (arith, c.len.ensures, c.loop-place.met.ok.0, c.if-place-len.false) in
    let is : row (rows_of rows) (type_met c.deref.result.now place) ≡ c.as_slice-next.result.now =
    ap (λ (m : List Met). row (rows_of rows) (type_met m place)) c.deref.ensures.value
    ∙ here rows old place c.index.result.now c.index-rows-index.result
    c.loop-place.invariant.search at c.index.ensures c.index-rows-index.is
    ∙ sym c.as_slice-next.ensures.value in
    subst (λ (l : List ℕ). (k : ℕ) × (k < length l) × (get_or l k 0 ≡ c.args.last)) (sym is)
    (c.has.ensures.0 c.if-has.true)

pub loop-place-preserved : goal.loop-place-preserved
loop-place-preserved c =
    let rows = rows_of c.args.rows.now in
    let place = c.loop-place.place in
    let old = c.loop-place.met.items in
    let new = c.reach.new.met.items in
    let next = c.as_slice-next.result.now in
    let s = c.loop-place.invariant.search in
    let r : Reaches rows c.args.first c.args.last (length next) next old new
    c.loop-place.marks.items c.reach.new.marks =
    rw c.deref_mut.ensures.value at c.in_ok-reach.ensures in
    let at : place < length old =
    omega (arith, c.len.ensures, c.loop-place.met.ok.0, c.if-place-len.false) in
    let is : next ≡ row rows (type_met old place) =
    c.as_slice-next.ensures.value
    ∙ sym (here c.args.rows.now old place c.index.result.now c.index-rows-index.result s at
    c.index.ensures c.index-rows-index.is) in
    let same =
    marks-back c.loop-place.marks.len c.reach.new.marks c.loop-place.marks.items
    (omega (arith, c.loop-place.marks.ok.0)) (omega (arith, r.search.size, s.size)) in
    record {
      search =
          subst (λ (marks : List Bool). IsSearch rows c.args.first c.args.last new marks) (sym same)
          r.search;
      closed =
          subst (λ (marks : List Bool). AreClosed rows new marks (place + 1)) (sym same)
          (closed_more rows c.args.first c.args.last place old new c.loop-place.marks.items
          c.reach.new.marks next at c.loop-place.invariant.closed is r);
      within = omega (arith, at, r.keeps.longer);
    }

pub returns : goal.returns
returns c =
    no-way (rows_of c.args.rows.now) c.args.first c.args.last c.loop-place.place
    c.loop-place.met.items c.loop-place.marks.items c.loop-place.invariant.search
    c.loop-place.invariant.closed
    (omega (
      arith,
      rows-many c.args.rows.now,
      met-few (rows_of c.args.rows.now) c.args.first c.args.last c.loop-place.met.items
          c.loop-place.marks.items c.loop-place.invariant.search,
    ))
