-- Orders between n types, of which none stands twice, are at most n * n.
use Rattle.std.proofs.Common.{◌≡◌, ℕ, ◌+◌, ◌*◌, ◌^◌, ◌<◌, ◌≤◌, true, false, eqb, ne_eqb, nat_lt}
use Rattle.std.proofs.Common.{nat_le, List, [], ◌∷◌, ◌++◌, length, map, reverse, refl, ap, sym, ◌∙◌}
use Rattle.std.proofs.Common.{subst, ⊎_elim, arith, length-append}
use Rattle.std.specs.List.{AllByRecursion, IsDistinct, list_any}
use Rattle.std.proofs.Math.Nat.{mul-le-mul}
use Rattle.std.proofs.lemmas.Bool.{and_parts, and_from, or_cases, or_left, or_parts, or_right}
use Rattle.std.proofs.lemmas.Bool.{eqb-true, eq-eqb, lt-ltb, le-leb, false≢true}
use Rattle.std.proofs.lemmas.List.{length-map, length-reverse, reverse-append}
use Rattle.std.proofs.lemmas.List.Folds.{list_all-append, list_any-append}
use Rattle.std.proofs.lemmas.Map.Steps.{length-le_from_distinct_below}
use Rattle.wit_model.specs.declared.calls.Adoption.{Adoption}
use Rattle.wit_model.specs.declared.sizes.TheConstants.Limits.{MOST_TYPES}
use Rattle.wit_model.specs.Rules.Numbers.{IsNumber, is_number}
use Rattle.wit_model.specs.Rules.Orders.{AreDistinct, is_adoption_of, is_direct}
use Rattle.wit_matrix.specs.Relation.{OrdersAmong}
use Rattle.wit_observers.specs.Numbers.{all_fit, fits, cell_place}
use Rattle.wit_observers.proofs.Numbers.{place_within, places_apart}

-- ---- they fit

is_self : (o : Adoption) → is_adoption_of o.parent.0 o.child.0 o ≡ true
is_self o =
    and_from (eqb o.parent.0 o.parent.0) (eqb o.child.0 o.child.0)
    (eq-eqb o.parent.0 o.parent.0 refl)
    (eq-eqb o.child.0 o.child.0 refl)

numbered : (n a : ℕ) → IsNumber n a → is_number n a ≡ true
numbered n a is = and_from (nat_lt 0 a) (nat_le a n) (lt-ltb 0 a is.0) (le-leb a n is.1)

all_among : (n : ℕ) (os : List Adoption) → OrdersAmong n os → all_fit n os ≡ true
all_among n [] among = refl
all_among n (o ∷ os) among =
    let own = among o.parent.0 o.child.0
    (or_left (is_adoption_of o.parent.0 o.child.0 o) (is_direct os o.parent.0 o.child.0)
    (is_self o)) in
    and_from (fits n o.parent.0 o.child.0) (all_fit n os)
    (and_from (is_number n o.parent.0) (is_number n o.child.0) (numbered n o.parent.0 own.0)
    (numbered n o.child.0 own.1))
    (all_among n os (λ a b is. among a b (or_right (is_adoption_of a b o) (is_direct os a b) is)))

all_reversed : (n : ℕ) (os : List Adoption) → all_fit n os ≡ true → all_fit n (reverse os) ≡ true
all_reversed n [] all = refl
all_reversed n (o ∷ os) all =
    let parts = and_parts (fits n o.parent.0 o.child.0) (all_fit n os) all in
    ap (all_fit n) (reverse-append (o ∷ []) os)
    ∙ list_all-append (λ (p : Adoption). fits n p.parent.0 p.child.0) (reverse os) (o ∷ [])
    ∙ and_from (all_fit n (reverse os)) (all_fit n (o ∷ [])) (all_reversed n os parts.1)
    (and_from (fits n o.parent.0 o.child.0) true parts.0 refl)

-- ---- their places in a square differ

place_of : ℕ → Adoption → ℕ
place_of n o = cell_place n o.parent.0 o.child.0

new_place : (n : ℕ) (o : Adoption) (os : List Adoption) → fits n o.parent.0 o.child.0 ≡ true
    → all_fit n os ≡ true
    → is_direct os o.parent.0 o.child.0 ≡ false
    → AllByRecursion (λ y. eqb (place_of n o) y ≡ false) (map (place_of n) os)
unfolding place_of
new_place n o [] here all none = tt
new_place n o (p ∷ os) here all none =
    let fit = and_parts (fits n p.parent.0 p.child.0) (all_fit n os) all in
    let other =
    or_parts (is_adoption_of o.parent.0 o.child.0 p) (is_direct os o.parent.0 o.child.0) none in (
      ne_eqb (place_of n o) (place_of n p)
          (λ same. let e = places_apart n o.parent.0 o.child.0 p.parent.0 p.child.0
          here fit.0 same in
          false≢true (sym other.0 ∙ and_from (eqb p.parent.0 o.parent.0) (eqb p.child.0 o.child.0)
          (eq-eqb p.parent.0 o.parent.0 (sym e.0)) (eq-eqb p.child.0 o.child.0 (sym e.1)))),
      new_place n o os here fit.1 other.1,
    )

new_places : (n : ℕ) (os : List Adoption) → all_fit n os ≡ true → AreDistinct os
    → IsDistinct eqb (map (place_of n) os)
unfolding IsDistinct
new_places n [] all distinct = tt
new_places n (o ∷ os) all distinct =
    let fit = and_parts (fits n o.parent.0 o.child.0) (all_fit n os) all in
    (new_place n o os fit.0 fit.1 distinct.0, new_places n os fit.1 distinct.1)

places_below : (n : ℕ) (os : List Adoption) (q : ℕ) → all_fit n os ≡ true
    → list_any (eqb q) (map (place_of n) os) ≡ true → q < n * n
unfolding place_of
places_below n [] q all is = absurd (false≢true is)
places_below n (o ∷ os) q all is =
    let fit = and_parts (fits n o.parent.0 o.child.0) (all_fit n os) all in
    ⊎_elim (λ here. subst (λ k. k < n * n) (sym (eqb-true q (place_of n o) here))
    (place_within n o.parent.0 o.child.0 fit.0))
    (λ later. places_below n os q fit.1 later)
    (or_cases (eqb q (place_of n o)) (list_any (eqb q) (map (place_of n) os)) is)

few : (n : ℕ) (os : List Adoption) → all_fit n os ≡ true → AreDistinct os → length os ≤ n * n
few n os all distinct =
    subst (λ k. k ≤ n * n) (length-map os (place_of n))
    (length-le_from_distinct_below (map (place_of n) os) (n * n) (new_places n os all distinct)
    (λ q is. places_below n os q all is))

-- ---- orders that are adopted behind others

module _ (n : ℕ) (more os : List Adoption) (among : OrdersAmong n (more ++ os)) where
  pub fit_more : all_fit n (reverse more) ≡ true
  fit_more =
      all_reversed n more (all_among n more
      (λ a b is. among a b (list_any-append (is_adoption_of a b) more os
      ∙ or_left (is_direct more a b) (is_direct os a b) is)))

  pub room_more : n ≤ MOST_TYPES → AreDistinct (more ++ os)
      → length (reverse os) + length (reverse more) < 2 ^ 32
  room_more most distinct =
      let all = few n (more ++ os) (all_among n (more ++ os) among) distinct in
      let square : n * n ≤ MOST_TYPES * MOST_TYPES = mul-le-mul most most in
      let one = length-reverse os in
      let two = length-reverse more in
      let both = length-append more os in
      omega (arith, all, square, one, two, both)

-- ---- all orders

module _ (n : ℕ) (os : List Adoption) (among : OrdersAmong n os) where
  pub fit_all : all_fit n (reverse os) ≡ true
  fit_all = all_reversed n os (all_among n os among)

  pub room_all : n ≤ MOST_TYPES → AreDistinct os → length (reverse os) < 2 ^ 32
  room_all most distinct =
      let all = few n os (all_among n os among) distinct in
      let square : n * n ≤ MOST_TYPES * MOST_TYPES = mul-le-mul most most in
      let one = length-reverse os in
      omega (arith, all, square, one)
