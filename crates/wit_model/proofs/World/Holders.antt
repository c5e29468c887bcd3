-- Who has shares of a lock: what one more share or one fewer does, and what holds of all holders.
use Rattle.std.proofs.Common.{◌≡◌, ℕ, zero, suc, ◌+◌, ◌-◌, ◌<◌, Bool, true, false, ◌||◌, cond, eqb}
use Rattle.std.proofs.Common.{nat_lt, List, [], ◌∷◌, length, refl, ap, sym, ◌∙◌, subst, inl, inr}
use Rattle.std.proofs.Common.{arith}
use Rattle.std.specs.List.{list_all, range_with_len}
use Rattle.std.proofs.lemmas.Bool.{and_parts, and_from, eq-eqb, eqb-true, ne_eqb, ltb-true}
use Rattle.std.proofs.lemmas.Bool.{ltb-false, true≢false}
use Rattle.std.proofs.lemmas.Bool.Decides.{eqb_tells}
use Rattle.wit_model.specs.Rules.Numbers.{is_number}
use Rattle.wit_model.specs.World.Scenes.{shares_among, one_more, one_fewer}
use Rattle.wit_model.specs.World.Shown.{IsTidy}
use Rattle.wit_model.proofs.World.Exclusion.{one_thread}

-- two tests that imply each other are one
pub both_ways : (a b : Bool) → (a ≡ true → b ≡ true) → (b ≡ true → a ≡ true) → a ≡ b
both_ways true b to back = sym (to refl)
both_ways false true to back = back refl
both_ways false false to back = refl

-- ---- one share more, or fewer

-- beside the first holder, who is u or isn't
module _ (u t : ℕ) (x : ℕ × ℕ) (xs : List (ℕ × ℕ)) where
  first-more : (b : Bool) → cond b (x.1 + 1) (shares_among t xs)
      ≡ cond b (cond b x.1 (shares_among t xs) + 1) (cond b x.1 (shares_among t xs))
  first-more true = refl
  first-more false = refl

  first-fewer : (b : Bool) → cond b (x.1 - 1) (shares_among t xs)
      ≡ cond b (cond b x.1 (shares_among t xs) - 1) (cond b x.1 (shares_among t xs))
  first-fewer true = refl
  first-fewer false = refl

  first-gone : (b : Bool) → (b ≡ true → shares_among t xs ≡ x.1 - 1)
      → shares_among t xs ≡ cond b (cond b x.1 (shares_among t xs) - 1)
      (cond b x.1 (shares_among t xs))
  first-gone true none = none refl
  first-gone false none = refl

  later : (f : ℕ → ℕ) (a b : Bool) (m : ℕ) → m ≡ cond b (f (shares_among t xs)) (shares_among t xs)
      → (a ≡ true → b ≡ true → ⊥)
      → cond a x.1 m ≡ cond b (f (cond a x.1 (shares_among t xs))) (cond a x.1 (shares_among t xs))
  later f true true m is apart = absurd (apart refl refl)
  later f true false m is apart = refl
  later f false true m is apart = is
  later f false false m is apart = is

pub shares-one_more : (u t : ℕ) (xs : List (ℕ × ℕ))
    → shares_among t (one_more u xs) ≡ cond (eqb u t) (shares_among t xs + 1) (shares_among t xs)
shares-one_more u t [] = refl
shares-one_more u t (x ∷ xs) =
    elim (eqb_tells x.0 u) [
      | inl is ↦
          ap (λ ys. shares_among t ys) (let e : one_more u (x ∷ xs)
          ≡ (u, x.1 + 1) ∷ xs = rw is.0 refl in e)
          ∙ subst (λ k. cond (eqb k t) (x.1 + 1) (shares_among t xs)
          ≡ cond (eqb k t) (cond (eqb x.0 t) x.1 (shares_among t xs) + 1)
          (cond (eqb x.0 t) x.1 (shares_among t xs))) is.1
          (first-more u t x xs (eqb x.0 t))
      | inr other ↦
          ap (λ ys. shares_among t ys) (let e : one_more u (x ∷ xs)
          ≡ x ∷ one_more u xs = rw other.0 refl in e)
          ∙ later u t x xs (λ n. n + 1) (eqb x.0 t) (eqb u t) (shares_among t (one_more u xs))
          (shares-one_more u t xs)
          (λ a b. other.1 (eqb-true x.0 t a ∙ sym (eqb-true u t b)))
    ]

pub shares-one_fewer : (u t : ℕ) (xs : List (ℕ × ℕ)) → IsTidy xs
    → shares_among t (one_fewer u xs) ≡ cond (eqb u t) (shares_among t xs - 1) (shares_among t xs)
shares-one_fewer u t [] tidy = both (eqb u t)
  where
    both : (b : Bool) → ◌≡◌ {A = ℕ} 0 (cond b 0 0)
    both true = refl
    both false = refl
shares-one_fewer u t (x ∷ xs) tidy =
    elim (eqb_tells x.0 u) [
      | inl is ↦
          subst (λ k. shares_among t (one_fewer u (x ∷ xs))
          ≡ cond (eqb k t) (cond (eqb x.0 t) x.1 (shares_among t xs) - 1)
          (cond (eqb x.0 t) x.1 (shares_among t xs))) is.1
          (ap (λ ys. shares_among t ys) (let e : one_fewer u (x ∷ xs)
          ≡ cond (nat_lt 1 x.1) ((u, x.1 - 1) ∷ xs) xs = rw is.0 refl in e)
          ∙ go is.1 (nat_lt 1 x.1) refl)
      | inr other ↦
          ap (λ ys. shares_among t ys) (let e : one_fewer u (x ∷ xs)
          ≡ x ∷ one_fewer u xs = rw other.0 refl in e)
          ∙ later u t x xs (λ n. n - 1) (eqb x.0 t) (eqb u t) (shares_among t (one_fewer u xs))
          (shares-one_fewer u t xs tidy.2)
          (λ a b. other.1 (eqb-true x.0 t a ∙ sym (eqb-true u t b)))
    ]
  where
    go : x.0 ≡ u → (b : Bool) → nat_lt 1 x.1 ≡ b → shares_among t (cond b ((u, x.1 - 1) ∷ xs) xs)
        ≡ cond (eqb x.0 t) (cond (eqb x.0 t) x.1 (shares_among t xs) - 1)
        (cond (eqb x.0 t) x.1 (shares_among t xs))
    go is true more =
        subst (λ k. cond (eqb k t) (x.1 - 1) (shares_among t xs)
        ≡ cond (eqb x.0 t) (cond (eqb x.0 t) x.1 (shares_among t xs) - 1)
        (cond (eqb x.0 t) x.1 (shares_among t xs))) is (first-fewer u t x xs (eqb x.0 t))
    go is false last =
        first-gone u t x xs (eqb x.0 t)
        (λ here. (let none = ap (λ k. shares_among k xs) (sym (eqb-true x.0 t here)) ∙ tidy.1 in
        let few = ltb-false 1 x.1 last in
        let some = tidy.0 in omega (arith, none, few, some)))

unmoved : (b : Bool) (f : ℕ → ℕ) (n : ℕ) → b ≡ false → n ≡ 0 → cond b (f n) n ≡ 0
unmoved true f n other none = absurd (true≢false other)
unmoved false f n other none = none

pub tidy-one_more : (u : ℕ) (xs : List (ℕ × ℕ)) → IsTidy xs → IsTidy (one_more u xs)
tidy-one_more u [] tidy = (omega arith, refl, tt)
tidy-one_more u (x ∷ xs) tidy =
    elim (eqb_tells x.0 u) [
      | inl is ↦ rw is.0 (omega arith, ap (λ k. shares_among k xs) (sym is.1) ∙ tidy.1, tidy.2)
      | inr other ↦
          rw other.0 (
            tidy.0,
            shares-one_more u x.0 xs ∙ unmoved (eqb u x.0) (λ n. n + 1) (shares_among x.0 xs)
                (ne_eqb u x.0 (λ same. other.1 (sym same))) tidy.1,
            tidy-one_more u xs tidy.2,
          )
    ]

pub tidy-one_fewer : (u : ℕ) (xs : List (ℕ × ℕ)) → IsTidy xs → IsTidy (one_fewer u xs)
tidy-one_fewer u [] tidy = tt
tidy-one_fewer u (x ∷ xs) tidy =
    elim (eqb_tells x.0 u) [
      | inl is ↦ rw is.0 (go is.1 (nat_lt 1 x.1) refl)
      | inr other ↦
          rw other.0 (
            tidy.0,
            shares-one_fewer u x.0 xs tidy.2 ∙ unmoved (eqb u x.0) (λ n. n - 1)
                (shares_among x.0 xs) (ne_eqb u x.0 (λ same. other.1 (sym same))) tidy.1,
            tidy-one_fewer u xs tidy.2,
          )
    ]
  where
    go : x.0 ≡ u → (b : Bool) → nat_lt 1 x.1 ≡ b → IsTidy (cond b ((u, x.1 - 1) ∷ xs) xs)
    go is true more = (
      let lt = ltb-true 1 x.1 more in
          omega (arith, lt),
      ap (λ k. shares_among k xs) (sym is) ∙ tidy.1,
      tidy.2,
    )
    go is false last = tidy.2

-- ---- what holds of all holders

pub all_holders : (p : ℕ → Bool) (xs : List (ℕ × ℕ)) → IsTidy xs
    → ((t : ℕ) → 0 < shares_among t xs → p t ≡ true) → list_all (λ (x : ℕ × ℕ). p x.0) xs ≡ true
all_holders p [] tidy each = refl
all_holders p (x ∷ xs) tidy each =
    and_from (p x.0) (list_all (λ (y : ℕ × ℕ). p y.0) xs)
    (each x.0 (subst (λ b. 0 < cond b x.1 (shares_among x.0 xs))
    (sym (eq-eqb x.0 x.0 refl)) tidy.0))
    (all_holders p xs tidy.2 (λ t some. each t (go (eqb x.0 t) (shares_among t xs) some)))
  where
    go : (b : Bool) (n : ℕ) → 0 < n → 0 < cond b x.1 n
    go true n some = tidy.0
    go false n some = some

pub each_holder : (p : ℕ → Bool) (xs : List (ℕ × ℕ)) → list_all (λ (x : ℕ × ℕ). p x.0) xs ≡ true
    → (t : ℕ) → 0 < shares_among t xs → p t ≡ true
each_holder p [] all t some = absurd (omega arith)
each_holder p (x ∷ xs) all t some =
    let parts = and_parts (p x.0) (list_all (λ (y : ℕ × ℕ). p y.0) xs) all in
    elim (eqb_tells x.0 t) [
      | inl is ↦ subst (λ k. p k ≡ true) is.1 parts.0
      | inr other ↦ each_holder p xs parts.1 t
          (subst (λ b. 0 < cond b x.1 (shares_among t xs)) other.0 some)
    ]

all_numbers : (q : ℕ → Bool) (a n : ℕ) → ((t : ℕ) → q t ≡ true)
    → list_all q (range_with_len a n) ≡ true
all_numbers q a zero each = refl
all_numbers q a (suc n) each =
    and_from (q a) (list_all q (range_with_len (a + 1) n)) (each a) (all_numbers q (a + 1) n each)

-- a test of all holders is a test of all threads that those pass who have no share
module _ (threads : ℕ) (had : ℕ → ℕ) (p q : ℕ → Bool) (xs : List (ℕ × ℕ)) (tidy : IsTidy xs)
    (same : (t : ℕ) → shares_among t xs ≡ had t)
    (seats : (t : ℕ) → 0 < had t → is_number threads t ≡ true) (without : (t : ℕ) → had t ≡ 0
    → q t ≡ true) (having : (t : ℕ) → 0 < had t → q t ≡ p t) where
  none_or_some : (n : ℕ) (X : Type 0) → (n ≡ 0 → X) → (0 < n → X) → X
  none_or_some zero X none some = none refl
  none_or_some (suc n) X none some = some (omega arith)

  pub holders_threads : list_all (λ (x : ℕ × ℕ). p x.0) xs ≡ list_all q (range_with_len 1 threads)
  holders_threads =
      both_ways (list_all (λ (x : ℕ × ℕ). p x.0) xs) (list_all q (range_with_len 1 threads))
      (λ all. all_numbers q 1 threads (λ t. none_or_some (had t) (q t ≡ true) (without t)
      (λ some. having t some ∙ each_holder p xs all t (subst (λ n. 0 < n) (sym (same t)) some))))
      (λ all. all_holders p xs tidy (λ t held.
      (let some : 0 < had t = subst (λ n. 0 < n) (same t) held in
      sym (having t some) ∙ one_thread q threads t all (seats t some))))

-- ---- the tests of scenes as tests of holders

pub admitted_exclusive : (xs : List (ℕ × ℕ))
    → eqb (length xs) 0 ≡ list_all (λ (x : ℕ × ℕ). false) xs
admitted_exclusive [] = refl
admitted_exclusive (x ∷ xs) = ne_eqb (length (x ∷ xs)) 0 (λ none. (omega arith))

pub admitted_shared : (b : Bool) (xs : List (ℕ × ℕ))
    → (eqb (length xs) 0 || b) ≡ list_all (λ (x : ℕ × ℕ). b) xs
admitted_shared b xs = ap (λ a. a || b) (admitted_exclusive xs) ∙ go b xs
  where
    constant : (ys : List (ℕ × ℕ)) → true ≡ list_all (λ (y : ℕ × ℕ). true) ys
    constant [] = refl
    constant (y ∷ ys) = constant ys

    go : (b : Bool) (ys : List (ℕ × ℕ)) → (list_all (λ (y : ℕ × ℕ). false) ys || b)
        ≡ list_all (λ (y : ℕ × ℕ). b) ys
    go b [] = refl
    go true (y ∷ ys) = constant ys
    go false (y ∷ ys) = refl
