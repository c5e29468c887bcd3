-- Orders that are judged one after the other, up to a place among them.
use Rattle.std.proofs.Common.{◌≡◌, ℕ, suc, ◌+◌, ◌<◌, ◌≤◌, false, List, [], ◌∷◌, ◌++◌, length}
use Rattle.std.proofs.Common.{get_or, drop, refl, sym, ap, ◌∙◌, subst, append_assoc, add-one}
use Rattle.std.proofs.lemmas.List.{map-append, drop_all, append-nil}
use Rattle.std.proofs.Math.Seq.{drop-cons}
use Rattle.wit_circles.specs.declared.orders.Order.{Order}
use Rattle.wit_circles.specs.declared.orders.Against.{Against}
use Rattle.wit_circles.specs.declared.kept.Kept.{Kept}
use Rattle.wit_circles.specs.Keeping.{IsKept}
use Rattle.wit_circles.specs.Orders.{IsWay, leads, Told, JudgedBy, Judged, shown, told_of}
use Rattle.wit_circles.proofs.Ways.{way-leads}

-- these are kept by now, and what is told of the rest is told of all after what was told
pub record IsJudging (orders : List Order) (i : ℕ) (kept : Kept) (told : List Against) : Type 0 where
  pub known : List Order
  pub so : IsKept known kept
  pub goes_on : (rest : Told) → Judged known (drop i orders) rest
      → Judged [] orders (told_of told ++ rest)

pub judging_none : (orders : List Order) (kept : Kept) → IsKept [] kept
    → IsJudging orders 0 kept []
judging_none orders kept is = record { known = []; so = is; goes_on = λ rest judged. judged }

pub judging_all : (orders : List Order) (i : ℕ) (kept : Kept) (told : List Against)
    → IsJudging orders i kept told → length orders ≤ i → Judged [] orders (told_of told)
judging_all orders i kept told is far =
    subst (Judged [] orders) (append-nil (told_of told))
    (is.goes_on [] (subst (λ (rest : List Order). Judged is.known rest []) (sym (drop_all i orders far))
    refl))

module _ (orders : List Order) (i : ℕ) (told : List Against) (o d : Order)
    (lt : i < length orders) (read : get_or orders i d ≡ o) where
  here : drop i orders ≡ o ∷ drop (i + 1) orders
  here =
      drop-cons orders i d lt
      ∙ ap (λ (x : Order). x ∷ drop (suc i) orders) read
      ∙ ap (λ n. o ∷ drop n orders) (sym (add-one i))

  -- what is judged of the rest is judged of this one first
  judged-first : (known : List Order) (rest : Told)
      → JudgedBy (leads known o.to o.from) known o (λ next. Judged next (drop (i + 1) orders)) rest
      → Judged known (drop i orders) rest
  judged-first known rest is = subst (λ (all : List Order). Judged known all rest) (sym here) is

  pub judging_kept : (old new : Kept) (is : IsJudging orders i old told)
      → leads is.known o.to o.from ≡ false → IsKept (o ∷ is.known) new
      → IsJudging orders (i + 1) new told
  judging_kept old new is free kept = record {
    known = o ∷ is.known;
    so = kept;
    goes_on =
        λ rest judged. is.goes_on rest
        (judged-first is.known rest
        (subst (λ b. JudgedBy b is.known o (λ next. Judged next (drop (i + 1) orders)) rest)
        (sym free) judged));
  }

  pub judging_told : (kept : Kept) (is : IsJudging orders i kept told) (a : Against)
      → a.order ≡ o → IsWay is.known o.to a.way.items o.from
      → IsJudging orders (i + 1) kept (told ++ a ∷ [])
  judging_told kept is a same back = record {
    known = is.known;
    so = is.so;
    goes_on =
        λ rest judged.
        subst (Judged [] orders)
        (sym (ap (λ (t : Told). t ++ rest) (map-append shown told (a ∷ []))
        ∙ append_assoc (told_of told) (shown a ∷ []) rest))
        (is.goes_on (shown a ∷ rest)
        (judged-first is.known (shown a ∷ rest)
        (subst (λ b. JudgedBy b is.known o (λ next. Judged next (drop (i + 1) orders))
        (shown a ∷ rest))
        (sym (way-leads is.known o.to a.way.items o.from back))
        (record {
          way = a.way.items;
          rest = rest;
          parted = ap (λ (x : Order). (x, a.way.items) ∷ rest) same;
          back = back;
          goes_on = judged;
        }))));
  }
