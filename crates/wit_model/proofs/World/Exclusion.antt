-- In every world who has a lock exclusively has it alone.
use Rattle.std.proofs.Common.{◌≡◌, ℕ, zero, suc, ◌+◌, ◌-◌, ◌<◌, ◌≤◌, Bool, true, false, not, ◌||◌}
use Rattle.std.proofs.Common.{cond, eqb, List, [], ◌∷◌, refl, sym, ◌∙◌, subst, inl, inr, ⊎_elim}
use Rattle.std.proofs.Common.{arith}
use Rattle.std.specs.List.{list_all, range_with_len}
use Rattle.std.proofs.lemmas.Bool.{and_parts, or_cases, cases_Bool, eqb-true, ltb-true, leb-true}
use Rattle.std.proofs.lemmas.Bool.{not-true, false≢true}
use Rattle.std.proofs.lemmas.Bool.Decides.{eqb_tells}
use Rattle.wit_model.specs.declared.locks.Mode.{Mode}
use Rattle.wit_model.specs.declared.locks.Mode.TheVariants.{Shared, Exclusive}
use Rattle.wit_model.specs.Rules.Numbers.{is_number}
use Rattle.wit_model.specs.Rules.State.{Start}
use Rattle.wit_model.specs.Rules.Verdict.{is_exclusive}
use Rattle.wit_model.specs.World.Deeds.{Deed, Logged, PassedOver, Take, TryTake, Free, RawUp}
use Rattle.wit_model.specs.World.Deeds.{RawDown, are_these, shares, raw_mode}
use Rattle.wit_model.specs.World.Steps.{admits, is_alone, CanDo, IsWorld}

-- ---- what a test of all threads says of one

in_range : (p : ℕ → Bool) (a n t : ℕ) → list_all p (range_with_len a n) ≡ true → a ≤ t
    → t < a + n → p t ≡ true
in_range p a zero t all low high = absurd (omega arith)
in_range p a (suc n) t all low high =
    let parts = and_parts (p a) (list_all p (range_with_len (a + 1) n)) all in
    elim (eqb_tells a t) [
      | inl here ↦ subst (λ k. p k ≡ true) here.1 parts.0
      | inr there ↦ let other =
          there.1 in in_range p (a + 1) n t parts.1 (omega arith) (omega arith)
    ]

pub one_thread : (p : ℕ → Bool) (threads t : ℕ) → list_all p (range_with_len 1 threads) ≡ true
    → is_number threads t ≡ true → p t ≡ true
one_thread p threads t all is =
    let parts = and_parts _ _ is in
    let low = ltb-true 0 t parts.0 in
    let high = leb-true t threads parts.1 in
    in_range p 1 threads t all (omega arith) (omega arith)

some-not : (n : ℕ) → eqb n 0 ≡ true → 0 < n → ⊥
some-not n is some = let none = eqb-true n 0 is in omega arith

module _ (threads x l : ℕ) (w : List Deed) (seat : is_number threads x ≡ true)
    (some : 0 < shares x l w) where
  pub none-had : admits threads l Exclusive w ≡ true → ⊥
  none-had admitted =
      some-not (shares x l w) (one_thread (λ t. eqb (shares t l w) 0) threads x admitted seat) some

  pub shared-had : admits threads l Shared w ≡ true → is_exclusive (raw_mode x l w) ≡ false
  shared-had admitted =
      ⊎_elim (λ none. absurd (some-not (shares x l w) none some))
      (λ shared. not-true (is_exclusive (raw_mode x l w)) shared)
      (or_cases (eqb (shares x l w) 0) (not (is_exclusive (raw_mode x l w)))
      (one_thread (λ t. eqb (shares t l w) 0 || not (is_exclusive (raw_mode t l w))) threads x
      admitted seat))

  pub alone-is : (u : ℕ) → is_alone threads u l w ≡ true → x ≡ u
  alone-is u alone =
      let all =
      (and_parts (eqb (shares u l w) 1)
      (list_all (λ t. eqb t u || eqb (shares t l w) 0) (range_with_len 1 threads)) alone).1
      in
      ⊎_elim (λ same. eqb-true x u same) (λ none. absurd (some-not (shares x l w) none some))
      (or_cases (eqb x u) (eqb (shares x l w) 0)
      (one_thread (λ t. eqb t u || eqb (shares t l w) 0) threads x all seat))

-- these are the thread and the lock
pub these : (t l u m : ℕ) → are_these t l u m ≡ true → (u ≡ t) × (m ≡ l)
these t l u m is = let parts =
    and_parts (eqb u t) (eqb m l) is in (eqb-true u t parts.0, eqb-true m l parts.1)

pub had-more : (b : Bool) (n : ℕ) → b ≡ false → 0 < cond b (n + 1) n → 0 < n
had-more true n is some = absurd (false≢true (sym is))
had-more false n is some = some

pub had-less : (b : Bool) (n : ℕ) → 0 < cond b (n - 1) n → 0 < n
had-less true n some = omega arith
had-less false n some = some

module _ (start : Start) (files : List (List ℕ)) where
  -- ---- whoever has a share is a seat

  seat-got : (t l u m : ℕ) (w : List Deed) → is_number start.sizes.seats u ≡ true
      → (0 < shares t l w → is_number start.sizes.seats t ≡ true)
      → 0 < cond (are_these t l u m) (shares t l w + 1) (shares t l w)
      → is_number start.sizes.seats t ≡ true
  seat-got t l u m w seat was some =
      elim (cases_Bool (are_these t l u m)) [
        | inl is ↦ subst (λ n. is_number start.sizes.seats n ≡ true) (these t l u m is).0 seat
        | inr is ↦ was (had-more (are_these t l u m) (shares t l w) is some)
      ]

  seat-step : (d : Deed) (w : List Deed) → CanDo start files d w → (t l : ℕ)
      → (0 < shares t l w → is_number start.sizes.seats t ≡ true)
      → 0 < shares t l (d ∷ w) → is_number start.sizes.seats t ≡ true
  seat-step (Take u m mode) w can t l was some = seat-got t l u m w can.1.0 was some
  seat-step (TryTake u m mode) w can t l was some = seat-got t l u m w can.1.0 was some
  seat-step (PassedOver u c) w can t l was some = was some
  seat-step (Free u m) w can t l was some = was (had-less (are_these t l u m) (shares t l w) some)
  seat-step (Logged e) w can t l was some = was some
  seat-step (RawUp u m) w can t l was some = was some
  seat-step (RawDown u m) w can t l was some = was some

  pub has_seat : (w : List Deed) → IsWorld start files w → (t l : ℕ) → 0 < shares t l w
      → is_number start.sizes.seats t ≡ true
  has_seat [] world t l some = absurd (omega arith)
  has_seat (d ∷ w) world t l some = seat-step d w world.0 t l (has_seat w world.1 t l) some

  -- ---- and who has it exclusively is alone

  IsSole : List Deed → Type 0
  IsSole w = (t x l : ℕ) → (x ≡ t → ⊥) → 0 < shares t l w → 0 < shares x l w
      → is_exclusive (raw_mode t l w) ≡ false

  pub got-by : (mode : Mode) (w : List Deed) (x l : ℕ) → is_number start.sizes.seats x ≡ true
      → 0 < shares x l w → admits start.sizes.seats l mode w ≡ true
      → (is_exclusive mode ≡ false) × (is_exclusive (raw_mode x l w) ≡ false)
  got-by Exclusive w x l seat some admitted =
      absurd (none-had start.sizes.seats x l w seat some admitted)
  got-by Shared w x l seat some admitted =
      (refl, shared-had start.sizes.seats x l w seat some admitted)

  module _ (u m : ℕ) (mode : Mode) (w : List Deed) (world : IsWorld start files w)
      (admitted : admits start.sizes.seats m mode w ≡ true) (was : IsSole w) where
    -- another thread that has a share of the lock
    beside : (x l : ℕ) → m ≡ l → 0 < shares x l w → (is_exclusive mode ≡ false)
        × (is_exclusive (raw_mode x l w) ≡ false)
    beside x l same some =
        got-by mode w x l (has_seat w world x l some) some
        (subst (λ k. admits start.sizes.seats k mode w ≡ true) same admitted)

    sole-got : (t x l : ℕ) → (x ≡ t → ⊥)
        → 0 < cond (are_these t l u m) (shares t l w + 1) (shares t l w)
        → 0 < cond (are_these x l u m) (shares x l w + 1) (shares x l w)
        → is_exclusive (cond (are_these t l u m) mode (raw_mode t l w)) ≡ false
    unfolding IsSole
    sole-got t x l other one two =
        elim (cases_Bool (are_these t l u m)) [
          | inl is ↦
              let a = these t l u m is in
              elim (cases_Bool (are_these x l u m)) [
                | inl also ↦ absurd (other (sym (these x l u m also).0 ∙ a.0))
                | inr not_x ↦ rw is (beside x l a.1
                    (had-more (are_these x l u m) (shares x l w) not_x two)).0
              ]
          | inr is ↦
              let had = had-more (are_these t l u m) (shares t l w) is one in
              elim (cases_Bool (are_these x l u m)) [
                | inl also ↦ rw is (beside t l (these x l u m also).1 had).1
                | inr not_x ↦ rw is (was t x l other had
                    (had-more (are_these x l u m) (shares x l w) not_x two))
              ]
        ]

  sole-step : (d : Deed) (w : List Deed) → IsWorld start files (d ∷ w) → IsSole w → IsSole (d ∷ w)
  unfolding IsSole
  sole-step (Logged e) w world was = was
  sole-step (PassedOver u c) w world was = was
  sole-step (Take u m mode) w world was = sole-got u m mode w world.1 world.0.1.1 was
  sole-step (TryTake u m mode) w world was = sole-got u m mode w world.1 world.0.1.1 was
  sole-step (Free u m) w world was = λ t x l other one two.
      was t x l other (had-less (are_these t l u m) (shares t l w) one)
      (had-less (are_these x l u m) (shares x l w) two)
  sole-step (RawUp u m) w world was = λ t x l other one two.
      elim (cases_Bool (are_these t l u m)) [
        | inl is ↦
            let a = these t l u m is in
            absurd (other (alone-is start.sizes.seats x l w (has_seat w world.1 x l two) two u
            (subst (λ k. is_alone start.sizes.seats u k w ≡ true) a.1 world.0.1.0) ∙ a.0))
        | inr is ↦ rw is (was t x l other one two)
      ]
  sole-step (RawDown u m) w world was = λ t x l other one two.
      elim (cases_Bool (are_these t l u m)) [
        | inl is ↦ rw is refl
        | inr is ↦ rw is (was t x l other one two)
      ]

  sole_world : (w : List Deed) → IsWorld start files w → IsSole w
  unfolding IsSole
  sole_world [] world = λ t x l other one two. absurd (omega arith)
  sole_world (d ∷ w) world = sole-step d w world (sole_world w world.1)

  pub exclusive_alone : (w : List Deed) (t x l : ℕ) → IsWorld start files w → (x ≡ t → ⊥)
      → 0 < shares t l w → 0 < shares x l w → is_exclusive (raw_mode t l w) ≡ false
  unfolding IsSole
  exclusive_alone w t x l world = sole_world w world t x l
