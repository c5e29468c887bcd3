-- Where a seat stands among those who have shares, and what one share more or fewer is there.
use Rattle.std.proofs.Common.{◌≡◌, ℕ, zero, suc, ◌+◌, ◌-◌, ◌<◌, ◌≤◌, Bool, true, false, not, ◌&&◌}
use Rattle.std.proofs.Common.{cond, eqb, nat_lt, List, [], ◌∷◌, ◌++◌, length, get_or, set, None}
use Rattle.std.proofs.Common.{Some, refl, ap, ap₂, sym, ◌∙◌, arith}
use Rattle.std.specs.List.{list_all, position, position_or_len, remove}
use Rattle.std.proofs.lemmas.Bool.{eqb-true, ltb-false, not-true}
use Rattle.std.proofs.lemmas.List.Quantifiers.{position-Some}
use Rattle.std.proofs.lemmas.List.Sums.{prefix_len_passes}
use Rattle.wit_model.specs.World.Scenes.{RawLock, shares_among, is_only, one_more, one_fewer}
use Rattle.wit_world.specs.declared.shares.Holder.{Holder}
use Rattle.wit_world.specs.Holders.{had, all_had, is_holder}

-- ---- t stands first at place i

abbrev pub StandsAt : ℕ → List Holder → ℕ → Holder → Type 0
StandsAt t xs i d = (i < length xs) × (is_holder t (get_or xs i d) ≡ true)
    × ((k : ℕ) → k < i → is_holder t (get_or xs k d) ≡ false)

pub stands : (t : ℕ) (xs : List Holder) (i : ℕ) (d : Holder) → position (is_holder t) xs ≡ Some i
    → StandsAt t xs i d
stands t xs i d is = position-Some (is_holder t) xs i d is

pub shares-at : (t : ℕ) (xs : List Holder) (i : ℕ) (d : Holder) → StandsAt t xs i d
    → shares_among t (all_had xs) ≡ (get_or xs i d).count
shares-at t [] i d at = absurd (omega (arith, at.0))
shares-at t (x ∷ xs) zero d at = rw at.1 refl
shares-at t (x ∷ xs) (suc i) d at =
    let first : eqb x.seat.0 t ≡ false = at.2 0 (omega arith) in
    let below = at.0 in
    rw first (shares-at t xs i d
    (omega (arith, below), at.1, λ k lt. at.2 (suc k) (omega (arith, lt))))

pub more-at : (t : ℕ) (xs : List Holder) (i : ℕ) (d h : Holder) → StandsAt t xs i d
    → h.seat ≡ (get_or xs i d).seat → h.count ≡ (get_or xs i d).count + 1
    → all_had (set xs i h) ≡ one_more t (all_had xs)
more-at t [] i d h at seat count = absurd (omega (arith, at.0))
more-at t (x ∷ xs) zero d h at seat count =
    let here : x.seat.0 ≡ t = eqb-true x.seat.0 t at.1 in
    rw at.1 (ap₂ (λ a b. (a, b) ∷ all_had xs) (ap (λ s. s.0) seat ∙ here) count)
more-at t (x ∷ xs) (suc i) d h at seat count =
    let first : eqb x.seat.0 t ≡ false = at.2 0 (omega arith) in
    let below = at.0 in
    rw first (ap (λ ys. had x ∷ ys)
    (more-at t xs i d h (
      omega (arith, below),
      at.1,
      λ k lt.
          at.2 (suc k) (omega (arith, lt)),
    ) seat count))

pub fewer-at : (t : ℕ) (xs : List Holder) (i : ℕ) (d h : Holder) → StandsAt t xs i d
    → nat_lt 1 (get_or xs i d).count ≡ true
    → h.seat ≡ (get_or xs i d).seat → h.count ≡ (get_or xs i d).count - 1
    → all_had (set xs i h) ≡ one_fewer t (all_had xs)
fewer-at t [] i d h at some seat count = absurd (omega (arith, at.0))
fewer-at t (x ∷ xs) zero d h at some seat count =
    let here : x.seat.0 ≡ t = eqb-true x.seat.0 t at.1 in
    rw (at.1, some) (ap₂ (λ a b. (a, b) ∷ all_had xs) (ap (λ s. s.0) seat ∙ here) count)
fewer-at t (x ∷ xs) (suc i) d h at some seat count =
    let first : eqb x.seat.0 t ≡ false = at.2 0 (omega arith) in
    let below = at.0 in
    rw first (ap (λ ys. had x ∷ ys)
    (fewer-at t xs i d h (omega (arith, below), at.1, λ k lt. at.2 (suc k) (omega (arith, lt)))
    some seat count))

pub gone-at : (t : ℕ) (xs : List Holder) (i : ℕ) (d : Holder) → StandsAt t xs i d
    → nat_lt 1 (get_or xs i d).count ≡ false
    → all_had (remove xs i) ≡ one_fewer t (all_had xs)
gone-at t [] i d at last = absurd (omega (arith, at.0))
gone-at t (x ∷ xs) zero d at last = rw (at.1, last) refl
gone-at t (x ∷ xs) (suc i) d at last =
    let first : eqb x.seat.0 t ≡ false = at.2 0 (omega arith) in
    let below = at.0 in
    rw first (ap (λ ys. had x ∷ ys)
    (gone-at t xs i d (
      omega (arith, below),
      at.1,
      λ k lt.
          at.2 (suc k) (omega (arith, lt)),
    ) last))

-- ---- t stands nowhere

abbrev pub IsAbsent : ℕ → List Holder → Holder → Type 0
IsAbsent t xs d = (k : ℕ) → k < length xs → is_holder t (get_or xs k d) ≡ false

pub absent : (t : ℕ) (xs : List Holder) (d : Holder) → position (is_holder t) xs ≡ None
    → IsAbsent t xs d
absent t xs d none = λ k lt.
    let past = go (nat_lt (position_or_len (is_holder t) xs) (length xs)) refl none in
    not-true (is_holder t (get_or xs k d))
    (prefix_len_passes (λ x. not (is_holder t x)) xs k d (omega (arith, past, lt)))
  where
    go : (b : Bool) → nat_lt (position_or_len (is_holder t) xs) (length xs) ≡ b
        → cond b (Some (position_or_len (is_holder t) xs)) None ≡ None
        → length xs ≤ position_or_len (is_holder t) xs
    go true is some = absurd (cc)
    go false is some = ltb-false (position_or_len (is_holder t) xs) (length xs) is

pub shares-absent : (t : ℕ) (xs : List Holder) (d : Holder) → IsAbsent t xs d
    → shares_among t (all_had xs) ≡ 0
shares-absent t [] d none = refl
shares-absent t (x ∷ xs) d none =
    let first : eqb x.seat.0 t ≡ false = none 0 (omega arith) in
    rw first (shares-absent t xs d (λ k lt. none (suc k) (omega (arith, lt))))

pub more-absent : (t : ℕ) (xs : List Holder) (d h : Holder) → IsAbsent t xs d → h.seat.0 ≡ t
    → h.count ≡ 1 → all_had (xs ++ h ∷ []) ≡ one_more t (all_had xs)
more-absent t [] d h none seat count = ap₂ (λ a b. (a, b) ∷ []) seat count
more-absent t (x ∷ xs) d h none seat count =
    let first : eqb x.seat.0 t ≡ false = none 0 (omega arith) in
    rw first (ap (λ ys. had x ∷ ys)
    (more-absent t xs d h (λ k lt. none (suc k) (omega (arith, lt))) seat count))

pub fewer-absent : (t : ℕ) (xs : List Holder) (d : Holder) → IsAbsent t xs d
    → all_had xs ≡ one_fewer t (all_had xs)
fewer-absent t [] d none = refl
fewer-absent t (x ∷ xs) d none =
    let first : eqb x.seat.0 t ≡ false = none 0 (omega arith) in
    rw first (ap (λ ys. had x ∷ ys)
    (fewer-absent t xs d (λ k lt. none (suc k) (omega (arith, lt)))))

-- ---- t has the only share

all-had : (t : ℕ) (xs : List Holder) → list_all (λ (x : ℕ × ℕ). eqb x.0 t) (all_had xs)
    ≡ list_all (is_holder t) xs
all-had t [] = refl
all-had t (x ∷ xs) = ap (λ b. eqb x.seat.0 t && b) (all-had t xs)

pub only-had : (t : ℕ) (k : RawLock) (xs : List Holder) (b : Bool) → b ≡ list_all (is_holder t) xs
    → all_had xs ≡ k.holders → shares_among t k.holders ≡ 1 → b ≡ is_only t k
only-had t k xs b is same one =
    is ∙ sym (all-had t xs) ∙ ap (λ ys. list_all (λ (x : ℕ × ℕ). eqb x.0 t) ys) same
    ∙ sym (ap (λ n. eqb n 1 && list_all (λ (x : ℕ × ℕ). eqb x.0 t) k.holders) one)
