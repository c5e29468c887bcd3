-- A search that finds no way, and the way back from a place.
use Rattle.std.proofs.Common.{◌≡◌, ℕ, ◌+◌, ◌<◌, ◌≤◌, Bool, true, List, [], ◌∷◌, ◌++◌}
use Rattle.std.proofs.Common.{length, get_or, sym, ap, ◌∙◌, subst, inl, inr, arith, reverse}
use Rattle.std.proofs.lemmas.Bool.{false≢true, cases_eq}
use Rattle.std.proofs.lemmas.List.{reverse-append}
use Rattle.wit_circles.specs.declared.search.Met.{Met}
use Rattle.wit_circles.specs.Orders.{IsWayBy}
use Rattle.wit_circles.specs.Searching.{Next, is_marked, type_met, before_met, row}
use Rattle.wit_circles.specs.Searching.{IsTrail, IsSearch, Reaches, AreClosed}

pub closed_more : (rows : List (List ℕ)) (first last place : ℕ) (met later : List Met)
    (marks next : List Bool) (r : List ℕ) → place < length met
    → AreClosed rows met marks place → r ≡ row rows (type_met met place)
    → Reaches rows first last (length r) r met later marks next
    → AreClosed rows later next (place + 1)
closed_more rows first last place met later marks next r at closed is so i below t follows =
    elim (cases_eq i place) [
      | inl e ↦ here (subst (λ x. Next rows x t)
          (ap (type_met later) e ∙ so.keeps.same place at) follows)
      | inr apart ↦
          let lt : i < place = omega (arith, below, apart) in
          so.keeps.stays t (closed i lt t
          (subst (λ x. Next rows x t) (so.keeps.same i (omega (arith, lt, at))) follows))
    ]
  where
    here : Next rows (type_met met place) t → is_marked next t ≡ true
    here found =
        let less : found.0 < length r = omega (arith, found.1, ap length is) in
        subst (λ u. is_marked next u ≡ true)
        (ap (λ (x : List ℕ). get_or x found.0 0) is ∙ found.2)
        (so.all found.0 less)

-- where all that comes next is marked, a way goes from marked types to marked ones
pub no-way : (rows : List (List ℕ)) (first last places : ℕ) (met : List Met) (marks : List Bool)
    → IsSearch rows first last met marks → AreClosed rows met marks places → length met ≤ places
    → (way : List ℕ) → IsWayBy (Next rows) first way last → ⊥
no-way rows first last places met marks s closed all way is = from first way s.own is
  where
    from : (a : ℕ) (way : List ℕ) → is_marked marks a ≡ true → IsWayBy (Next rows) a way last → ⊥
    from a [] marked is =
        false≢true (sym s.missing ∙ sym (ap (is_marked marks) is) ∙ marked)
    from a (c ∷ way) marked is =
        let found = s.marked a marked in
        from c way (closed found.0 (omega (arith, found.1, all)) c
        (subst (λ x. Next rows x c) (sym found.2) is.0)) is.1

-- the way that ends so is one longer at its beginning
pub back_more : (rows : List (List ℕ)) (met : List Met) (first at last t : ℕ) (way next : List ℕ)
    → IsTrail rows first met → 0 < at → at < length met
    → IsWayBy (Next rows) (type_met met at) (reverse way) last → t ≡ type_met met at
    → next ≡ way ++ t ∷ []
    → IsWayBy (Next rows) (type_met met (before_met met at)) (reverse next) last
back_more rows met first at last t way next trail some within is own more =
    let turned : reverse next ≡ t ∷ reverse way = ap reverse more ∙ reverse-append way (t ∷ []) in
    subst (λ w. IsWayBy (Next rows) (type_met met (before_met met at)) w last) (sym turned)
    (subst (λ x. Next rows (type_met met (before_met met at)) x × IsWayBy (Next rows) x (reverse way)
    last) (sym own) (trail.next at some within, is))
