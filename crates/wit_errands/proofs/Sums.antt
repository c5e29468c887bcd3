-- Sums over the threads.
use Rattle.std.proofs.Common.{◌≡◌, ℕ, zero, suc, ◌+◌, ◌<◌, ◌≤◌, Bool, true, false, cond, eqb, nat_lt}
use Rattle.std.proofs.Common.{List, [], ◌∷◌, ◌++◌, map, length, sum_by, refl, ap, sym}
use Rattle.std.proofs.Common.{subst, inl, inr, arith}
use Rattle.std.specs.List.{range_with_len}
use Rattle.std.proofs.lemmas.Bool.{ltb-true, ltb-false}
use Rattle.std.proofs.lemmas.Bool.Decides.{eqb_tells}
use Rattle.std.proofs.lemmas.List.Sums.{sum_by-cons}
use Rattle.wit_model.specs.declared.calls.Entry.{Entry}
use Rattle.wit_model.specs.Rules.History.{own_entries}
use Rattle.wit_model.specs.Rules.State.{Start, state_of}
use Rattle.wit_model.specs.Rules.Step.{story_after, IsLegal}
use Rattle.wit_model.proofs.Histories.Legal.{seat-within, seat_accepted}
use Rattle.wit_errands.specs.Settled.{larger, most}

abbrev pub total : (ℕ → ℕ) → ℕ → ℕ → ℕ
total f a n = sum_by f (range_with_len a n)

total-more : (f : ℕ → ℕ) (a n : ℕ) → total f a (suc n) ≡ f a + total f (a + 1) n
total-more f a n = sum_by-cons f a (range_with_len (a + 1) n)

pub total-below : (f g : ℕ → ℕ) → ((i : ℕ) → f i ≤ g i) → (a n : ℕ) → total f a n ≤ total g a n
total-below f g all a zero = omega arith
total-below f g all a (suc n) =
    omega (arith, total-more f a n, total-more g a n, all a, total-below f g all (a + 1) n)

-- where one of them leaves room for k more
pub total-room : (f g : ℕ → ℕ) → ((i : ℕ) → f i ≤ g i) → (t k : ℕ) → f t + k ≤ g t → (a n : ℕ)
    → a ≤ t → t < a + n → total f a n + k ≤ total g a n
total-room f g all t k room a zero low high = absurd (omega arith)
total-room f g all t k room a (suc n) low high =
    elim (eqb_tells a t) [
      | inl here ↦
          let now : f a + k ≤ g a = subst (λ i. f i + k ≤ g i) (sym here.1) room in
          omega (arith, total-more f a n, total-more g a n, now, total-below f g all (a + 1) n)
      | inr there ↦
          let other = there.1 in
          let rest = total-room f g all t k room (a + 1) n (omega arith) (omega arith) in
          omega (arith, total-more f a n, total-more g a n, all a, rest)
    ]

pub total-same : (f g : ℕ → ℕ) → ((i : ℕ) → f i ≡ g i) → (a n : ℕ) → total f a n ≡ total g a n
total-same f g same a zero = refl
total-same f g same a (suc n) =
    omega (arith, total-more f a n, total-more g a n, same a, total-same f g same (a + 1) n)

pub total-both : (f g : ℕ → ℕ) (a n : ℕ)
    → total (λ i. f i + g i) a n ≡ total f a n + total g a n
total-both f g a zero = refl
total-both f g a (suc n) =
    omega (
      arith,
      total-more (λ i. f i + g i) a n,
      total-more f a n,
      total-more g a n,
      total-both f g (a + 1) n,
    )

pub total-map : {X : Type 0} (g : X → ℕ) (f : ℕ → X) (a n : ℕ)
    → sum_by g (map f (range_with_len a n)) ≡ total (λ i. g (f i)) a n
total-map g f a zero = refl
total-map g f a (suc n) =
    omega (
      arith,
      sum_by-cons g (f a) (map f (range_with_len (a + 1) n)),
      total-more (λ i. g (f i)) a n,
      total-map g f (a + 1) n,
    )

total-none : (a n : ℕ) → total (λ i. 0) a n ≡ 0
total-none a zero = refl
total-none a (suc n) = omega (arith, total-more (λ i. 0) a n, total-none (a + 1) n)

one_if : Bool → ℕ
one_if b = cond b 1 0

none-past : (x a n : ℕ) → x < a → total (λ i. one_if (eqb x i)) a n ≡ 0
unfolding one_if
none-past x a zero past = refl
none-past x a (suc n) past =
    elim (eqb_tells x a) [
      | inl here ↦ absurd (let same = here.1 in omega arith)
      | inr there ↦
          let now : one_if (eqb x a) ≡ 0 = ap one_if there.0 in
          omega (
            arith,
            total-more (λ i. one_if (eqb x i)) a n,
            now,
            none-past x (a + 1) n (omega arith),
          )
    ]

one-thread : (x a n : ℕ) → a ≤ x → x < a + n → total (λ i. one_if (eqb x i)) a n ≡ 1
unfolding one_if
one-thread x a zero low high = absurd (omega arith)
one-thread x a (suc n) low high =
    elim (eqb_tells x a) [
      | inl here ↦
          let now : one_if (eqb x a) ≡ 1 = ap one_if here.0 in
          let same = here.1 in
          omega (
            arith,
            total-more (λ i. one_if (eqb x i)) a n,
            now,
            none-past x (a + 1) n (omega arith),
          )
      | inr there ↦
          let now : one_if (eqb x a) ≡ 0 = ap one_if there.0 in
          let other = there.1 in
          omega (
            arith,
            total-more (λ i. one_if (eqb x i)) a n,
            now,
            one-thread x (a + 1) n (omega arith) (omega arith),
          )
    ]

own-more : (i : ℕ) (e : Entry) (h : List Entry)
    → length (own_entries i (e ∷ h)) ≡ one_if (eqb e.seat.0 i) + length (own_entries i h)
unfolding one_if
own-more i e h = by (eqb e.seat.0 i)
  where
    by : (b : Bool) → length (cond b (e ∷ own_entries i h) (own_entries i h))
        ≡ cond b 1 0 + length (own_entries i h)
    by true = omega arith
    by false = omega arith

-- a legal history is as long as those of its seats together
pub entries-total : (start : Start) (files : List (List ℕ)) (h : List Entry)
    → IsLegal start files h
    → length h ≡ total (λ i. length (own_entries i h)) 1 start.sizes.seats
entries-total start files [] legal = sym (total-none 1 start.sizes.seats)
entries-total start files (e ∷ h) legal =
    let seat =
    seat-within start files h e.seat.0
    (seat_accepted (state_of (story_after start files h)) e.seat.0 e.call e.reply legal.0) in
    let n = start.sizes.seats in
    let more =
    total-same (λ i. length (own_entries i (e ∷ h)))
    (λ i. one_if (eqb e.seat.0 i) + length (own_entries i h)) (λ i. own-more i e h) 1 n in
    let both =
    total-both (λ i. one_if (eqb e.seat.0 i)) (λ i. length (own_entries i h)) 1 n in
    let one = one-thread e.seat.0 1 n (omega (arith, seat)) (omega (arith, seat)) in
    omega (arith, more, both, one, entries-total start files h legal.2)

-- ---- the most of a history

larger-left : (a b : ℕ) → a ≤ larger a b
larger-left a b = go (nat_lt a b) refl
  where
    go : (c : Bool) → nat_lt a b ≡ c → a ≤ cond (nat_lt a b) b a
    go true is = rw is (let less = ltb-true a b is in omega arith)
    go false is = rw is (omega arith)

larger-right : (a b : ℕ) → b ≤ larger a b
larger-right a b = go (nat_lt a b) refl
  where
    go : (c : Bool) → nat_lt a b ≡ c → b ≤ cond (nat_lt a b) b a
    go true is = rw is (omega arith)
    go false is = rw is (let more = ltb-false a b is in omega arith)

most-now : (f : List Entry → ℕ) (h : List Entry) → f h ≤ most f h
most-now f [] = omega arith
most-now f (e ∷ h) = larger-left (f (e ∷ h)) (most f h)

pub most-at : (f : List Entry → ℕ) (later h : List Entry) → f h ≤ most f (later ++ h)
most-at f [] h = most-now f h
most-at f (e ∷ later) h =
    omega (arith, most-at f later h, larger-right (f (e ∷ later ++ h)) (most f (later ++ h)))
