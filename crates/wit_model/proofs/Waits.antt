-- Of any state a circle that starts with its least seat can be told, or that there is none.
use Rattle.std.proofs.Common.{◌≡◌, ℕ, zero, suc, ◌<◌, ◌≤◌, Bool, true, false, cond, ◌&&◌, eqb, leb}
use Rattle.std.proofs.Common.{List, [], ◌∷◌, length, Option, None, Some, find, refl, sym, ap, subst}
use Rattle.std.proofs.Common.{◌∙◌, inl, inr, ◌⊎◌, ⊎_elim, arith, unwrap_or}
use Rattle.std.specs.List.{list_all}
use Rattle.std.proofs.lemmas.Bool.{and_parts, and_from, or_cases, or_left, or_right, eqb-true}
use Rattle.std.proofs.lemmas.Bool.{eq-eqb, leb-true, leb-false, cases_Bool, false≢true}
use Rattle.wit_model.specs.declared.calls.Adoption.{Adoption}
use Rattle.wit_model.specs.declared.calls.Request.{Request}
use Rattle.wit_model.specs.declared.locks.Instance.{Instance}
use Rattle.wit_model.specs.declared.locks.Origin.TheVariants.{Listed}
use Rattle.wit_model.specs.Rules.Circles.{IsQueue, IsCircle, waits_for, is_kept_by}
use Rattle.wit_model.specs.Rules.Circles.{Waits, starts_with_least, TellsCircle}
use Rattle.wit_model.specs.Rules.Numbers.{is_given}
use Rattle.wit_model.specs.Rules.Orders.{is_direct, IsPath, Before, is_before}
use Rattle.wit_model.specs.Rules.State.{State, Seat, no_seat, seat_at}
use Rattle.wit_model.specs.Rules.Step.{held_by}
use Rattle.wit_model.specs.Rules.Verdict.{is_of}
use Rattle.wit_model.proofs.Numbered.{with_number-none}
use Rattle.wit_model.proofs.Orders.Paths.{before_trans, direct-before, before_from_test}
use Rattle.wit_model.proofs.Orders.Paths.{test_from_before}

-- ---- who waits for whom, as a list of pairs

abbrev pair : ℕ → ℕ → Adoption
pair t u = record { parent = record { 0 = t }; child = record { 0 = u }; origin = Listed }

module _ (waits : ℕ → ℕ → Bool) where
  put : ℕ → ℕ → List Adoption → List Adoption
  put t u os = cond (waits t u) (pair t u ∷ os) os

  -- those for whom t waits, up to the number k
  abbrev row : ℕ → ℕ → List Adoption → List Adoption
  row t zero os = put t 0 os
  row t (suc k) os = put t (suc k) (row t k os)

  -- those of whom none has a greater number than n, for the first k of them
  abbrev rows : ℕ → ℕ → List Adoption
  rows n zero = row 0 n []
  rows n (suc k) = row (suc k) n (rows n k)

  put_sound : (t u : ℕ) (os : List Adoption) (a b : ℕ) → is_direct (put t u os) a b ≡ true
      → (waits a b ≡ true) ⊎ (is_direct os a b ≡ true)
  unfolding put
  put_sound t u os a b is = go (waits t u) refl is
    where
      go : (w : Bool) → waits t u ≡ w → is_direct (cond w (pair t u ∷ os) os) a b ≡ true
          → (waits a b ≡ true) ⊎ (is_direct os a b ≡ true)
      go false w is = inr is
      go true w is =
          ⊎_elim
          (λ here. let same = and_parts (eqb t a) (eqb u b) here in
          inl (subst (λ x. waits x b ≡ true) (eqb-true t a same.0)
          (subst (λ x. waits t x ≡ true) (eqb-true u b same.1) w)))
          (λ old. inr old)
          (or_cases (eqb t a && eqb u b) (is_direct os a b) is)

  put_keeps : (t u : ℕ) (os : List Adoption) (a b : ℕ) → is_direct os a b ≡ true
      → is_direct (put t u os) a b ≡ true
  unfolding put
  put_keeps t u os a b is = go (waits t u)
    where
      go : (w : Bool) → is_direct (cond w (pair t u ∷ os) os) a b ≡ true
      go false = is
      go true = or_right (eqb t a && eqb u b) (is_direct os a b) is

  put_has : (t u : ℕ) (os : List Adoption) → waits t u ≡ true → is_direct (put t u os) t u ≡ true
  unfolding put
  put_has t u os w =
      rw w (or_left (eqb t t && eqb u u) (is_direct os t u)
      (and_from (eqb t t) (eqb u u) (eq-eqb t t refl) (eq-eqb u u refl)))

  row_sound : (t k : ℕ) (os : List Adoption) (a b : ℕ) → is_direct (row t k os) a b ≡ true
      → (waits a b ≡ true) ⊎ (is_direct os a b ≡ true)
  row_sound t zero os a b is = put_sound t 0 os a b is
  row_sound t (suc k) os a b is =
      ⊎_elim (λ w. inl w) (λ old. row_sound t k os a b old)
      (put_sound t (suc k) (row t k os) a b is)

  row_keeps : (t k : ℕ) (os : List Adoption) (a b : ℕ) → is_direct os a b ≡ true
      → is_direct (row t k os) a b ≡ true
  row_keeps t zero os a b is = put_keeps t 0 os a b is
  row_keeps t (suc k) os a b is = put_keeps t (suc k) (row t k os) a b (row_keeps t k os a b is)

  at_most : (u k : ℕ) → u ≤ suc k → (u ≡ suc k) ⊎ (u ≤ k)
  at_most u k within =
      elim (cases_Bool (leb u k)) [
        | inl is ↦ inr (leb-true u k is)
        | inr less ↦ inl
            (omega (arith, leb-false u k less))
      ]

  row_has : (t u k : ℕ) (os : List Adoption) → u ≤ k → waits t u ≡ true
      → is_direct (row t k os) t u ≡ true
  row_has t u zero os within w = let e : u ≡ 0 =
      omega arith in rw e (put_has t 0 os (subst (λ x. waits t x ≡ true) e w))
  row_has t u (suc k) os within w =
      ⊎_elim
      (λ e. rw e (put_has t (suc k) (row t k os) (subst (λ x. waits t x ≡ true) e w)))
      (λ less. put_keeps t (suc k) (row t k os) t u (row_has t u k os less w))
      (at_most u k within)

  rows_sound : (n k a b : ℕ) → is_direct (rows n k) a b ≡ true → waits a b ≡ true
  rows_sound n zero a b is =
      ⊎_elim (λ w. w) (λ none. absurd (false≢true none)) (row_sound 0 n [] a b is)
  rows_sound n (suc k) a b is =
      ⊎_elim (λ w. w) (λ old. rows_sound n k a b old) (row_sound (suc k) n (rows n k) a b is)

  rows_have : (n k t u : ℕ) → t ≤ k → u ≤ n → waits t u ≡ true → is_direct (rows n k) t u ≡ true
  rows_have n zero t u less within w = let e : t ≡ 0 =
      omega arith in rw e (row_has 0 u n [] within (subst (λ x. waits x u ≡ true) e w))
  rows_have n (suc k) t u less within w =
      ⊎_elim
      (λ e. rw e (row_has (suc k) u n (rows n k) within (subst (λ x. waits x u ≡ true) e w)))
      (λ lower. row_keeps (suc k) n (rows n k) t u (rows_have n k t u lower within w))
      (at_most t k less)

-- ---- the least number that passes a test

-- none up to n passes; or one does, and none below it
abbrev IsLeast : (ℕ → Bool) → ℕ → Type 0
IsLeast p n =
    ((k : ℕ) → k ≤ n → p k ≡ false) ⊎ ((t : ℕ) × ((p t ≡ true) × ((k : ℕ) → k < t → p k ≡ false)))

least : (p : ℕ → Bool) (n : ℕ) → IsLeast p n
least p zero =
    elim (cases_Bool (p 0)) [
      | inl is ↦ inr (0, (is, λ k below. absurd (omega arith)))
      | inr less ↦ inl (λ k within. let e : k ≡ 0 = omega arith in rw e less)
    ]
least p (suc n) =
    ⊎_elim
    (λ none. elim (cases_Bool (p (suc n))) [
      | inl is ↦ inr (suc n, (is, λ k below. none k (omega arith)))
      | inr less ↦ inl (λ k within. ⊎_elim (λ e. rw e less) (λ less. none k less)
          (up_to k n within))
    ])
    (λ some. inr some)
    (least p n)
  where
    up_to : (k m : ℕ) → k ≤ suc m → (k ≡ suc m) ⊎ (k ≤ m)
    up_to k m within =
        elim (cases_Bool (leb k m)) [
          | inl is ↦ inr (leb-true k m is)
          | inr less ↦ inl
              (omega (arith, leb-false k m less))
        ]

-- ---- circles

module _ (waits : ℕ → ℕ → Bool) (n : ℕ) (among : (t u : ℕ) → waits t u ≡ true
    → (t ≤ n) × (u ≤ n)) where
  abbrev Waiting : ℕ → ℕ → Type 0
  Waiting t u = waits t u ≡ true

  abbrev pairs : List Adoption
  pairs = rows waits n n

  queue_path : (t : ℕ) (way : List ℕ) (u : ℕ) → IsQueue Waiting t way u → IsPath pairs t way u
  queue_path t [] u q = let a = among t u q in rows_have waits n n t u a.0 a.1 q
  queue_path t (v ∷ way) u q = let a =
      among t v q.0 in (rows_have waits n n t v a.0 a.1 q.0, queue_path v way u q.1)

  path_queue : (t : ℕ) (way : List ℕ) (u : ℕ) → IsPath pairs t way u → IsQueue Waiting t way u
  path_queue t [] u p = rows_sound waits n n t u p
  path_queue t (v ∷ way) u p = (rows_sound waits n n t v p.0, path_queue v way u p.1)

  -- the first of a queue is one of them
  first_among : (t : ℕ) (way : List ℕ) (u : ℕ) → IsQueue Waiting t way u → t ≤ n
  first_among t [] u q = (among t u q).0
  first_among t (v ∷ way) u q = (among t v q.0).0

  abbrev is_in_circle : ℕ → Bool
  is_in_circle t = is_before pairs t t

  -- the seats of a way from one that t is before, back to t, are on a circle too; so none is less
  -- than the least
  all_at_least : (t a : ℕ) (way : List ℕ) → ((k : ℕ) → k < t → is_in_circle k ≡ false)
      → Before pairs t a → IsPath pairs a way t → list_all (leb t) way ≡ true
  all_at_least t a [] lower to p = refl
  all_at_least t a (v ∷ way) lower to p =
      let there : Before pairs t v = before_trans pairs t a v to (direct-before pairs a v p.0) in
      let round : is_in_circle v ≡ true =
      test_from_before pairs v v (before_trans pairs v t v (way, p.1) there) in
      let least : leb t v ≡ true =
      elim (cases_Bool (leb t v)) [
        | inl is ↦ is
        | inr less ↦ absurd
            (false≢true (sym (lower v (leb-false t v less)) ∙ round))
      ] in
      and_from (leb t v) (list_all (leb t) way) least (all_at_least t v way lower there p.1)

  at_least : (t : ℕ) (way : List ℕ) → ((k : ℕ) → k < t → is_in_circle k ≡ false)
      → IsPath pairs t way t → list_all (leb t) way ≡ true
  at_least t [] lower p = refl
  at_least t (v ∷ way) lower p = all_first (direct-before pairs t v p.0)
    where
      all_first : Before pairs t v → list_all (leb t) (v ∷ way) ≡ true
      all_first there =
          let round : is_in_circle v ≡ true =
          test_from_before pairs v v (before_trans pairs v t v (way, p.1) there) in
          let least : leb t v ≡ true =
          elim (cases_Bool (leb t v)) [
            | inl is ↦ is
            | inr less ↦ absurd
                (false≢true (sym (lower v (leb-false t v less)) ∙ round))
          ] in
          and_from (leb t v) (list_all (leb t) way) least (all_at_least t v way lower there p.1)

  -- one that starts with its least, or none at all
  abbrev pub Told : Option (List ℕ) → Type 0
  Told None = (seats : List ℕ) → IsCircle Waiting seats → ⊥
  Told (Some seats) = IsCircle Waiting seats × (starts_with_least seats ≡ true)

  none_told : ((k : ℕ) → k ≤ n → is_in_circle k ≡ false) → (seats : List ℕ)
      → IsCircle Waiting seats → ⊥
  none_told none [] c = c
  none_told none (t ∷ others) c =
      false≢true (sym (none t (first_among t others t c))
      ∙ test_from_before pairs t t (others, queue_path t others t c))

  pub told : (c : Option (List ℕ)) × Told c
  told =
      ⊎_elim {A = (k : ℕ) → k ≤ n → is_in_circle k ≡ false} {B = (t : ℕ)
      × ((is_in_circle t ≡ true) × ((k : ℕ) → k < t → is_in_circle k ≡ false))}
      (λ none. (None, none_told none))
      (λ some. let way = before_from_test pairs some.0 some.0 some.1.0 in (
        Some (some.0 ∷ way.0),
        (
          path_queue some.0 way.0 some.0 way.1,
          at_least some.0 way.0 some.1.1 way.1,
        ),
      ))
      (least is_in_circle n)

-- ---- by the record

-- who isn't a seat asks for nothing and holds nothing
no_seat_there : (s : State) (t : ℕ) → is_given s.seats t ≡ false → seat_at s t ≡ no_seat
no_seat_there s t none = ap (λ o. unwrap_or o no_seat) (with_number-none s.seats t none)

module _ (s : State) where
  given_le : (t : ℕ) → is_given s.seats t ≡ true → t ≤ length s.seats
  given_le t is = leb-true t (length s.seats) (and_parts _ _ is).1

  asks_nothing : (t u : ℕ) → seat_at s t ≡ no_seat → waits_for s t u ≡ false
  asks_nothing t u none = ap (λ (x : Seat). is_kept_by s t u x.pending) none

  holds_nothing : (u l : ℕ) → seat_at s u ≡ no_seat → held_by s u l ≡ None
  holds_nothing u l none = rw none (go _)
    where
      go : (spin : Bool) → find (is_of l) (cond {A = List Instance} spin [] []) ≡ None
      go true = refl
      go false = refl

  keeps_nobody : (t u : ℕ) (q : Option Request) → seat_at s u ≡ no_seat → is_kept_by s t u q ≡ false
  keeps_nobody t u None none = refl
  keeps_nobody t u (Some q) none = rw (holds_nothing u q.lock.0 none) (dull _ _)
    where
      dull : (a b : Bool) → (a && (b && false)) ≡ false
      dull true true = refl
      dull true false = refl
      dull false b = refl

  seats_wait : (t u : ℕ) → waits_for s t u ≡ true → (t ≤ length s.seats) × (u ≤ length s.seats)
  seats_wait t u waits = (
    elim (cases_Bool (is_given s.seats t)) [
      | inl is ↦ given_le t is
      | inr other ↦ absurd
          (false≢true (sym (asks_nothing t u (no_seat_there s t other)) ∙ waits))
    ],
    elim (cases_Bool (is_given s.seats u)) [
      | inl is ↦ given_le u is
      | inr other ↦ absurd
          (false≢true (sym (keeps_nobody t u (seat_at s t).pending (no_seat_there s u other))
          ∙ waits))
    ],
  )

pub circle_told : (s : State) → (c : Option (List ℕ)) × TellsCircle (Waits s) c
circle_told s = go (told (waits_for s) (length s.seats) (seats_wait s))
  where
    go : (c : Option (List ℕ)) × Told (waits_for s) (length s.seats) (seats_wait s) c
        → (c : Option (List ℕ)) × TellsCircle (Waits s) c
    go (None, h) = (None, h)
    go (Some seats, h) = (Some seats, h)
