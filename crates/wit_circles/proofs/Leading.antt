-- What is told of orders that are kept as rows.
use Rattle.std.proofs.Common.{◌≡◌, ◌⊎◌, ℕ, ◌<◌, Bool, true, false, List, ◌∷◌, length, get_or}
use Rattle.std.proofs.Common.{refl, sym, subst, inl, inr, arith, Result, Ok, Err, IfOk}
use Rattle.std.proofs.Common.{Option, None, Some}
use Rattle.std.specs.Global.{Vec}
use Rattle.std.specs.declared.alloc.AllocError.{AllocError}
use Rattle.wit_circles.specs.declared.orders.Order.{Order}
use Rattle.wit_circles.specs.declared.kept.Kept.{Kept}
use Rattle.wit_circles.specs.Keeping.{IsKept, Rises, TellsBack}
use Rattle.wit_circles.specs.Orders.{Has, IsWay, leads}
use Rattle.wit_circles.specs.Searching.{rows_of, Next, IsTable, TellsWay}
use Rattle.wit_circles.proofs.Rows.{linked, rows-many, linked-cases, linked-stays, linked-new, linked-table}
use Rattle.wit_circles.proofs.Ways.{leads-way, way-likewise, way-rises}

-- where there is no way, the orders don't lead there
pub no-leads : (orders : List Order) (a b : ℕ) → ((way : List ℕ) → IsWay orders a way b → ⊥)
    → leads orders a b ≡ false
no-leads orders a b none = by (leads orders a b) refl
  where
    by : (x : Bool) → leads orders a b ≡ x → x ≡ false
    by false is = refl
    by true is = let found = leads-way orders a b is in absurd (none found.0 found.1)

-- ---- what is told of an order

module _ (orders : List Order) (kept : Kept) (is : IsKept orders kept) (o : Order) where
  abbrev rows : List (List ℕ)
  rows = rows_of kept.rows.items

  -- it goes to a greater rank, and ways don't lead back from there
  pub up-tells : kept.are_ranked ≡ true
      → get_or kept.ranks.items o.from 0 < get_or kept.ranks.items o.to 0
      → leads orders o.to o.from ≡ false
  up-tells ranked up =
      no-leads orders o.to o.from (λ way back.
      let low =
      way-rises (Next rows) (λ a. get_or kept.ranks.items a 0) (is.ranked ranked) o.to way o.from
      (way-likewise (Has orders) (Next rows) is.there o.to way o.from back) in
      absurd (omega (arith, low, up)))

  pub way-tells : (told : Result (Option (Vec ℕ)) AllocError) → IfOk told (TellsWay rows o.to o.from)
      → IfOk told (TellsBack orders o)
  way-tells (Err e) so = tt
  way-tells (Ok None) so =
      no-leads orders o.to o.from (λ way back.
      so way (way-likewise (Has orders) (Next rows) is.there o.to way o.from back))
  way-tells (Ok (Some way)) so =
      way-likewise (Next rows) (Has orders) is.alone o.to way.items o.from so

-- ---- one more is kept

module _ (orders : List Order) (old : Kept) (is : IsKept orders old) (o : Order) (new : Kept)
    (from : o.from < length old.rows.items) (to : o.to < length old.rows.items)
    (so : rows_of new.rows.items ≡ linked (rows_of old.rows.items) o.from o.to) where
  abbrev before : List (List ℕ)
  before = rows_of old.rows.items

  many : length before ≡ length old.rows.items
  many = rows-many old.rows.items

  within : o.from < length before
  within = omega (arith, from, many)

  back : (a b : ℕ) → Next (rows_of new.rows.items) a b
      → Next before a b ⊎ ((o.from ≡ a) × (o.to ≡ b))
  back a b next =
      linked-cases before o.from o.to within a b (subst (λ r. Next r a b) so next)

  on : (a b : ℕ) → Next (linked before o.from o.to) a b → Next (rows_of new.rows.items) a b
  on a b next = subst (λ r. Next r a b) (sym so) next

  pub rises_more : (ranks : List ℕ) → Rises before ranks
      → get_or ranks o.from 0 < get_or ranks o.to 0 → Rises (rows_of new.rows.items) ranks
  rises_more ranks rises up a b next =
      elim (back a b next) [
        | inl was ↦ rises a b was
        | inr own ↦ subst (λ x. get_or ranks x 0 < get_or ranks b 0) own.0
            (subst (λ x. get_or ranks o.from 0 < get_or ranks x 0) own.1 up)
      ]

  pub kept_more : (new.are_ranked ≡ true → Rises (rows_of new.rows.items) new.ranks.items)
      → IsKept (o ∷ orders) new
  kept_more ranked = record {
    table =
        subst IsTable (sym so)
        (linked-table before o.from o.to within (omega (arith, to, many)) is.table);
    there =
        λ a b has. by a b has;
    alone =
        λ a b next. elim (back a b next) [
          | inl was ↦ inr (is.alone a b was)
          | inr own ↦ inl own
        ];
    ranked = ranked;
  }
    where
      by : (a b : ℕ) → Has (o ∷ orders) a b → Next (rows_of new.rows.items) a b
      by a b (inl own) =
          on a b (subst (λ x. Next (linked before o.from o.to) x b) own.0
          (subst (Next (linked before o.from o.to) o.from) own.1
          (linked-new before o.from o.to within)))
      by a b (inr has) = on a b (linked-stays before o.from o.to within a b (is.there a b has))
