-- The numbers of orders in a list that grows, and the square of cells that says them.
use Rattle.std.proofs.Common.{◌≡◌, ◌⊎◌, ℕ, ◌+◌, ◌-◌, ◌*◌, ◌/◌, ◌<◌, ◌≤◌, Bool, true, false, ◌||◌}
use Rattle.std.proofs.Common.{not, cond, eqb, List, [], ◌∷◌, ◌++◌, length, get_or, set, replicate}
use Rattle.std.proofs.Common.{nat_lt, nat_le, refl, ap, sym, ◌∙◌, subst, inl, inr, ⊎_elim, arith}
use Rattle.std.proofs.Common.{append-nil, length-append, append_assoc}
use Rattle.std.specs.List.{list_any, position_or_len}
use Rattle.std.proofs.lemmas.Bool.{cases_Bool, false≢true, lt-ltb, le-leb, leb-true, ltb-true}
use Rattle.std.proofs.lemmas.Bool.{and_parts, and_from, and_right, or_parts, or_left, or_right}
use Rattle.std.proofs.lemmas.Bool.{eqb-true, eq-eqb, ne_eqb, or_from, cond-false}
use Rattle.std.proofs.lemmas.Nat.{div-mul-add, mul-add-lt}
use Rattle.std.proofs.lemmas.List.{length-set, get_or-set_same, get_or-set_other, get_or-replicate}
use Rattle.std.proofs.lemmas.List.{length-replicate}
use Rattle.std.proofs.lemmas.List.Folds.{list_any-append}
use Rattle.wit_model.specs.declared.calls.Adoption.{Adoption}
use Rattle.wit_model.specs.Rules.Numbers.{is_number}
use Rattle.wit_model.specs.Rules.Orders.{is_adoption_of, is_direct}
use Rattle.wit_model.proofs.Orders.Types.{place-append, place-within}
use Rattle.wit_observers.specs.Numbers.{number_in, fits, cell_place, number_at, numbered_one}
use Rattle.wit_observers.specs.Numbers.{numbered_all, all_fit, HasNumbers}

-- ---- numbers in a longer list

place-later : {X : Type 0} (p : X → Bool) (xs ys : List X) → list_any p xs ≡ false
    → position_or_len p (xs ++ ys) ≡ length xs + position_or_len p ys
place-later p [] ys none = omega arith
place-later p (x ∷ xs) ys none =
    let parts =
    or_parts (p x) (list_any p xs) none in
    rw parts.0 (let e = place-later p xs ys parts.1 in omega (arith, e))

direct-append : (os later : List Adoption) (a b : ℕ)
    → is_direct (os ++ later) a b ≡ (is_direct os a b || is_direct later a b)
direct-append os later a b = list_any-append (is_adoption_of a b) os later

number_of-direct : (os : List Adoption) (a b : ℕ) → is_direct os a b ≡ true
    → number_in os a b ≡ position_or_len (is_adoption_of a b) os + 1
number_of-direct os a b is = ap (λ t. cond t (position_or_len (is_adoption_of a b) os + 1) 0) is

number_of-none : (os : List Adoption) (a b : ℕ) → is_direct os a b ≡ false → number_in os a b ≡ 0
number_of-none os a b none = ap (λ t. cond t (position_or_len (is_adoption_of a b) os + 1) 0) none

number-stays : (os later : List Adoption) (a b : ℕ) → is_direct os a b ≡ true
    → number_in (os ++ later) a b ≡ number_in os a b
number-stays os later a b is =
    number_of-direct (os ++ later) a b
    (direct-append os later a b ∙ or_left (is_direct os a b) (is_direct later a b) is)
    ∙ (ap (λ k. k + 1) (place-append (is_adoption_of a b) os later is)
    ∙ sym (number_of-direct os a b is))

-- an order that is new has a number beyond those of all orders before it
number-later : (os later : List Adoption) (a b : ℕ) → is_direct os a b ≡ false
    → is_direct later a b ≡ true
    → number_in (os ++ later) a b ≡ length os + (position_or_len (is_adoption_of a b) later + 1)
number-later os later a b none is =
    number_of-direct (os ++ later) a b
    (direct-append os later a b ∙ or_right (is_direct os a b) (is_direct later a b) is)
    ∙ (let e = place-later (is_adoption_of a b) os later none in omega (arith, e))

number-none : (os later : List Adoption) (a b : ℕ) → is_direct os a b ≡ false
    → is_direct later a b ≡ false → number_in (os ++ later) a b ≡ 0
number-none os later a b none neither =
    number_of-none (os ++ later) a b (direct-append os later a b ∙ (rw (none, neither) refl))

-- an order stands in how a list began exactly where its number is one of those that the beginning
-- has
pub number_within : (os later : List Adoption) (a b : ℕ)
    → is_number (length os) (number_in (os ++ later) a b) ≡ is_direct os a b
number_within os later a b =
    ⊎_elim known (λ none. ⊎_elim (beyond none) (nowhere none) (cases_Bool (is_direct later a b)))
    (cases_Bool (is_direct os a b))
  where
    known : is_direct os a b ≡ true → is_number (length os) (number_in (os ++ later) a b)
        ≡ is_direct os a b
    known is =
        let lt = place-within (is_adoption_of a b) os is in
        let e = number-stays os later a b is ∙ number_of-direct os a b is in
        and_from (nat_lt 0 (number_in (os ++ later) a b))
        (nat_le (number_in (os ++ later) a b) (length os))
        (lt-ltb 0 (number_in (os ++ later) a b) (omega (arith, e)))
        (le-leb (number_in (os ++ later) a b) (length os) (omega (arith, e, lt)))
        ∙ sym is

    beyond : is_direct os a b ≡ false → is_direct later a b ≡ true
        → is_number (length os) (number_in (os ++ later) a b) ≡ is_direct os a b
    beyond none is =
        let e = number-later os later a b none is in
        ⊎_elim
        (λ within. absurd (let parts = and_parts (nat_lt 0 (number_in (os ++ later) a b))
        (nat_le (number_in (os ++ later) a b) (length os)) within in
        let le =
        leb-true (number_in (os ++ later) a b) (length os) parts.1 in omega (arith, e, le)))
        (λ past. past ∙ sym none)
        (cases_Bool (is_number (length os) (number_in (os ++ later) a b)))

    nowhere : is_direct os a b ≡ false → is_direct later a b ≡ false
        → is_number (length os) (number_in (os ++ later) a b) ≡ is_direct os a b
    nowhere none neither =
        ap (is_number (length os)) (number-none os later a b none neither) ∙ sym none

place-first : (a b : ℕ) (o : Adoption) → is_adoption_of a b o ≡ true
    → position_or_len (is_adoption_of a b) (o ∷ []) ≡ 0
place-first a b o is = ap (λ t. cond (not t) 1 0) is

-- ---- places in the square

number_bounds : (n a : ℕ) → is_number n a ≡ true → (0 < a) × (a ≤ n)
number_bounds n a is = let parts =
    and_parts (nat_lt 0 a) (nat_le a n) is in (ltb-true 0 a parts.0, leb-true a n parts.1)

fits_bounds : (n a b : ℕ) → fits n a b ≡ true → ((0 < a) × (a ≤ n)) × ((0 < b) × (b ≤ n))
fits_bounds n a b here = let parts = and_parts (is_number n a) (is_number n b) here in
    (number_bounds n a parts.0, number_bounds n b parts.1)

pub places_apart : (n a b c d : ℕ) → fits n a b ≡ true → fits n c d ≡ true
    → cell_place n a b ≡ cell_place n c d → (a ≡ c) × (b ≡ d)
places_apart n a b c d here there same =
    let h = fits_bounds n a b here in
    let t = fits_bounds n c d there in
    let rows : a - 1 ≡ c - 1 =
    sym (div-mul-add (a - 1) n (b - 1) (let l = h.1 in omega (arith, l.0, l.1)))
    ∙ (ap (λ k. k / n) same ∙ div-mul-add (c - 1) n (d - 1) (let l = t.1 in
    omega (arith, l.0, l.1))) in
    let products : (a - 1) * n ≡ (c - 1) * n = ap (λ k. k * n) rows in
    let h0 = h.0 in let h1 = h.1 in let t0 = t.0 in let t1 = t.1 in
    (omega (arith, rows, h0.0, t0.0), omega (arith, products, same, h1.0, t1.0))

pub place_within : (n a b : ℕ) → fits n a b ≡ true → cell_place n a b < n * n
place_within n a b here =
    let h = fits_bounds n a b here in let h0 = h.0 in let h1 = h.1 in
    mul-add-lt (a - 1) n (b - 1) n (omega (arith, h0.0, h0.1)) (omega (arith, h1.0, h1.1))

at_fitting : (n : ℕ) (cells : List ℕ) (a b : ℕ) → fits n a b ≡ true
    → number_at n cells a b ≡ get_or cells (cell_place n a b) 0
at_fitting n cells a b here = ap (λ t. cond t (get_or cells (cell_place n a b) 0) 0) here

-- ---- one order more

module _ (n : ℕ) (os : List Adoption) (cells : List ℕ) (has : HasNumbers n os cells) (o : Adoption)
    (here : fits n o.parent.0 o.child.0 ≡ true) where
  abbrev more : List ℕ
  more = numbered_one n cells o.parent.0 o.child.0 (length os + 1)

  kept : is_direct os o.parent.0 o.child.0 ≡ true → more ≡ cells
  kept is =
      let number = has.numbers o.parent.0 o.child.0 ∙ number_of-direct os o.parent.0 o.child.0 is in
      ap (λ t. cond t (set cells (cell_place n o.parent.0 o.child.0) (length os + 1)) cells)
      (and_right (fits n o.parent.0 o.child.0) (eqb (number_at n cells o.parent.0 o.child.0) 0)
      (ne_eqb (number_at n cells o.parent.0 o.child.0) 0 (λ zero. omega (arith, number, zero))))

  written : is_direct os o.parent.0 o.child.0 ≡ false
      → more ≡ set cells (cell_place n o.parent.0 o.child.0) (length os + 1)
  written none =
      ap (λ t. cond t (set cells (cell_place n o.parent.0 o.child.0) (length os + 1)) cells)
      (and_from (fits n o.parent.0 o.child.0) (eqb (number_at n cells o.parent.0 o.child.0) 0) here
      (eq-eqb (number_at n cells o.parent.0 o.child.0) 0
      (has.numbers o.parent.0 o.child.0 ∙ number_of-none os o.parent.0 o.child.0 none)))

  square_more : length more ≡ n * n
  square_more = ⊎_elim (λ is. ap length (kept is) ∙ has.square)
      (λ none. ap length (written none)
      ∙ (length-set cells (cell_place n o.parent.0 o.child.0) (length os + 1) ∙ has.square))
      (cases_Bool (is_direct os o.parent.0 o.child.0))

  -- the square says it where its order is asked for, and what it said elsewhere
  at_itself : is_direct os o.parent.0 o.child.0 ≡ false
      → number_at n more o.parent.0 o.child.0 ≡ length os + 1
  at_itself none =
      at_fitting n more o.parent.0 o.child.0 here
      ∙ (ap (λ cs. get_or cs (cell_place n o.parent.0 o.child.0) 0) (written none)
      ∙ get_or-set_same cells (cell_place n o.parent.0 o.child.0) (length os + 1) 0
      (subst (λ k. cell_place n o.parent.0 o.child.0 < k) (sym has.square)
      (place_within n o.parent.0 o.child.0 here)))

  at_others : (a b : ℕ) → is_adoption_of a b o ≡ false
      → number_at n more a b ≡ number_at n cells a b
  at_others a b other =
      ⊎_elim (λ is. ap (λ cs. number_at n cs a b) (kept is))
      (λ none. ⊎_elim (elsewhere none) outside (cases_Bool (fits n a b)))
      (cases_Bool (is_direct os o.parent.0 o.child.0))
    where
      outside : fits n a b ≡ false → number_at n more a b ≡ number_at n cells a b
      outside out =
          cond-false (fits n a b) (get_or more (cell_place n a b) 0) 0 out
          ∙ sym (cond-false (fits n a b) (get_or cells (cell_place n a b) 0) 0 out)

      elsewhere : is_direct os o.parent.0 o.child.0 ≡ false → fits n a b ≡ true
          → number_at n more a b ≡ number_at n cells a b
      elsewhere none there =
          at_fitting n more a b there
          ∙ (ap (λ cs. get_or cs (cell_place n a b) 0) (written none)
          ∙ (get_or-set_other cells (cell_place n o.parent.0 o.child.0) (cell_place n a b)
          (length os + 1) 0
          (λ same. let apart = places_apart n a b o.parent.0 o.child.0 there here same in
          false≢true (sym other ∙ and_from (eqb o.parent.0 a) (eqb o.child.0 b)
          (eq-eqb o.parent.0 a (sym apart.0)) (eq-eqb o.child.0 b (sym apart.1))))
          ∙ sym (at_fitting n cells a b there)))

  numbers_more : (a b : ℕ) → number_at n more a b ≡ number_in (os ++ o ∷ []) a b
  numbers_more a b = ⊎_elim itself another (cases_Bool (is_adoption_of a b o))
    where
      another : is_adoption_of a b o ≡ false → number_at n more a b ≡ number_in (os ++ o ∷ []) a b
      another other =
          at_others a b other ∙ (has.numbers a b
          ∙ ⊎_elim (λ is. sym (number-stays os (o ∷ []) a b is))
          (λ none. number_of-none os a b none
          ∙ sym (number-none os (o ∷ []) a b none
          (or_from (is_adoption_of a b o) false other refl)))
          (cases_Bool (is_direct os a b)))

      same : is_direct os o.parent.0 o.child.0 ≡ true
          → number_at n more o.parent.0 o.child.0 ≡ number_in (os ++ o ∷ []) o.parent.0 o.child.0
      same is = ap (λ cs. number_at n cs o.parent.0 o.child.0) (kept is)
          ∙ (has.numbers o.parent.0 o.child.0
          ∙ sym (number-stays os (o ∷ []) o.parent.0 o.child.0 is))

      new : is_direct os o.parent.0 o.child.0 ≡ false → is_adoption_of o.parent.0 o.child.0 o ≡ true
          → number_at n more o.parent.0 o.child.0 ≡ number_in (os ++ o ∷ []) o.parent.0 o.child.0
      new none is = at_itself none
          ∙ sym (number-later os (o ∷ []) o.parent.0 o.child.0 none
          (or_left (is_adoption_of o.parent.0 o.child.0 o) false is)
          ∙ ap (λ k. length os + (k + 1)) (place-first o.parent.0 o.child.0 o is))

      itself : is_adoption_of a b o ≡ true → number_at n more a b ≡ number_in (os ++ o ∷ []) a b
      itself is =
          let parts = and_parts (eqb o.parent.0 a) (eqb o.child.0 b) is in
          subst (λ x. number_at n more x b ≡ number_in (os ++ o ∷ []) x b)
          (eqb-true o.parent.0 a parts.0)
          (subst (λ y. number_at n more o.parent.0 y ≡ number_in (os ++ o ∷ []) o.parent.0 y)
          (eqb-true o.child.0 b parts.1)
          (⊎_elim same (λ none. new none
          (and_from (eqb o.parent.0 o.parent.0) (eqb o.child.0 o.child.0)
          (eq-eqb o.parent.0 o.parent.0 refl) (eq-eqb o.child.0 o.child.0 refl)))
          (cases_Bool (is_direct os o.parent.0 o.child.0))))

  one_more : HasNumbers n (os ++ o ∷ []) more
  one_more = record { square = square_more; numbers = numbers_more }

-- the square says the numbers of more orders once they are put in
pub put_numbers : (n : ℕ) (os : List Adoption) (cells : List ℕ) (later : List Adoption)
    → HasNumbers n os cells → all_fit n later ≡ true
    → HasNumbers n (os ++ later) (numbered_all n cells (length os) later)
put_numbers n os cells [] has all = subst (λ l. HasNumbers n l cells) (sym (append-nil os)) has
put_numbers n os cells (o ∷ later) has all =
    let parts = and_parts (fits n o.parent.0 o.child.0) (all_fit n later) all in
    let first = numbered_one n cells o.parent.0 o.child.0 (length os + 1) in
    let rest =
    put_numbers n (os ++ o ∷ []) first later (one_more n os cells has o parts.0) parts.1 in
    subst (λ k. HasNumbers n (os ++ o ∷ later) (numbered_all n first k later))
    (length-append os (o ∷ []))
    (subst (λ l. HasNumbers n l (numbered_all n first (length (os ++ o ∷ [])) later))
    (append_assoc os (o ∷ []) later) rest)

-- a square with no numbers is that of no orders
pub blank_numbers : (n : ℕ) → HasNumbers n [] (replicate (n * n) 0)
blank_numbers n =
    record {
      square = length-replicate (n * n) 0;
      numbers = λ a b. go a b (cases_Bool (fits n a b));
    }
  where
    go : (a b : ℕ) → (fits n a b ≡ true) ⊎ (fits n a b ≡ false)
        → number_at n (replicate (n * n) 0) a b ≡ 0
    go a b (inl here) =
        at_fitting n (replicate (n * n) 0) a b here ∙ get_or-replicate (n * n)
        (cell_place n a b) 0 0 (place_within n a b here)
    go a b (inr out) =
        cond-false (fits n a b) (get_or (replicate (n * n) 0) (cell_place n a b) 0) 0 out
