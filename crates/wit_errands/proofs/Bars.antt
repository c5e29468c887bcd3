-- What others have bars a deed, or doesn't.
use Rattle.std.proofs.Common.{◌≡◌, ℕ, ◌+◌, ◌<◌, Bool, true, false, not, ◌&&◌, ◌||◌, eqb, nat_lt, List}
use Rattle.std.proofs.Common.{[], ◌∷◌, refl, ap, ap₂, sym, ◌∙◌, subst, inl, inr, arith}
use Rattle.std.proofs.Common.{zero, suc}
use Rattle.std.proofs.Common.{◌⊎◌}
use Rattle.std.specs.List.{list_all, list_any, range_with_len}
use Rattle.std.proofs.lemmas.Bool.{cases_Bool, and_parts, and_from, or_parts, or_left, or_right}
use Rattle.std.proofs.lemmas.Bool.{eqb-false, eq-eqb, ltb-false, true≢false}
use Rattle.std.proofs.lemmas.Bool.{ltb-true, and_left, or_from}
use Rattle.std.proofs.lemmas.Bool.{and_right}
use Rattle.std.proofs.lemmas.Bool.Decides.{eqb_tells}
use Rattle.wit_model.specs.declared.locks.Mode.{Mode}
use Rattle.wit_model.specs.declared.locks.Mode.TheVariants.{Shared, Exclusive}
use Rattle.wit_model.specs.Rules.Verdict.{is_exclusive}
use Rattle.wit_model.specs.World.Deeds.{Deed, Logged, PassedOver, Take, TryTake, Free, RawUp}
use Rattle.wit_model.specs.World.Deeds.{RawDown, thread_of, shares, raw_mode}
use Rattle.wit_model.specs.World.Steps.{admits, is_alone, CanDo}
use Rattle.wit_model.specs.World.Steps.{IsWorld}
use Rattle.wit_model.specs.World.Reordering.{kept}
use Rattle.wit_model.proofs.World.Exclusion.{one_thread}
use Rattle.wit_model.proofs.World.Exclusion.{got-by, alone-is, has_seat}
use Rattle.wit_errands.specs.Settled.{is_free}
use Rattle.wit_errands.specs.Errands.{keeps, is_in_way}
use Rattle.wit_model.specs.Rules.State.{Start}
use Rattle.wit_model.specs.Rules.Numbers.{is_number}
use Rattle.wit_errands.proofs.Having.{HasSame}

-- ---- what bars and what doesn't

all-from : (p : ℕ → Bool) → ((i : ℕ) → p i ≡ true) → (a n : ℕ)
    → list_all p (range_with_len a n) ≡ true
all-from p each a zero = refl
all-from p each a (suc n) =
    and_from (p a) (list_all p (range_with_len (a + 1) n)) (each a) (all-from p each (a + 1) n)

none-or_mild : (n : ℕ) (b : Bool) → (nat_lt 0 n && b) ≡ false → (n ≡ 0) ⊎ (b ≡ false)
none-or_mild n b is =
    elim (cases_Bool (nat_lt 0 n)) [
      | inl some ↦ inr (sym (ap (λ c. c && b) some) ∙ is)
      | inr none ↦ inl (let few = ltb-false 0 n none in omega arith)
    ]

exclusive-any : (b : Bool) → (b || true) ≡ false → ⊥
exclusive-any true is = true≢false is
exclusive-any false is = true≢false is

shared-any : (b : Bool) → (b || false) ≡ false → not b ≡ true
shared-any true is = absurd (true≢false is)
shared-any false is = refl

-- who doesn't bar an exclusive share has nothing
not-exclusive : (i l : ℕ) (y : List Deed) → keeps i y l Exclusive ≡ false
    → eqb (shares i l y) 0 ≡ true
not-exclusive i l y free =
    elim (none-or_mild (shares i l y) (is_exclusive (raw_mode i l y) || true) free) [
      | inl none ↦ eq-eqb (shares i l y) 0 none
      | inr mild ↦ absurd (exclusive-any (is_exclusive (raw_mode i l y)) mild)
    ]

-- and who doesn't bar a shared one has nothing, or a shared one
not-shared : (i l : ℕ) (y : List Deed) → keeps i y l Shared ≡ false
    → (eqb (shares i l y) 0 || not (is_exclusive (raw_mode i l y))) ≡ true
not-shared i l y free =
    elim (none-or_mild (shares i l y) (is_exclusive (raw_mode i l y) || false) free) [
      | inl none ↦ or_left (eqb (shares i l y) 0) (not (is_exclusive (raw_mode i l y)))
          (eq-eqb (shares i l y) 0 none)
      | inr mild ↦ or_right (eqb (shares i l y) 0) (not (is_exclusive (raw_mode i l y)))
          (shared-any (is_exclusive (raw_mode i l y)) mild)
    ]

had_so : ℕ → Mode → Bool
had_so n m = eqb n 0 || not (is_exclusive m)

had-same : (n k : ℕ) (m o : Mode) → n ≡ k → (0 < k → m ≡ o) → had_so k o ≡ true
    → had_so n m ≡ true
unfolding had_so
had-same n k m o same modes is =
    elim (cases_Bool (eqb k 0)) [
      | inl none ↦ or_left (eqb n 0) (not (is_exclusive m)) (ap (λ x. eqb x 0) same ∙ none)
      | inr some ↦ ap₂ (λ x y. eqb x 0 || not (is_exclusive y)) same
          (modes (let other = eqb-false k 0 some in omega arith)) ∙ is
    ]

-- whether what u has bars a deed depends on what it has alone
way-same : (u : ℕ) (y z : List Deed) → HasSame u y z → (l : ℕ) (mode : Mode)
    → keeps u y l mode ≡ keeps u z l mode
way-same u y z has l mode =
    elim (cases_Bool (nat_lt 0 (shares u l z))) [
      | inl some ↦ ap₂ (λ n m. nat_lt 0 n && (is_exclusive m || is_exclusive mode)) (has.counts l)
          (has.modes l (ltb-true 0 (shares u l z) some))
      | inr none ↦ and_left (nat_lt 0 (shares u l y))
          (is_exclusive (raw_mode u l y) || is_exclusive mode)
          (ap (λ n. nat_lt 0 n) (has.counts l) ∙ none)
          ∙ sym (and_left (nat_lt 0 (shares u l z))
          (is_exclusive (raw_mode u l z) || is_exclusive mode) none)
    ]

pub in_way-same : (u : ℕ) (y z : List Deed) → HasSame u y z → (d : Deed)
    → is_in_way u y d ≡ is_in_way u z d
in_way-same u y z has (Take i l mode) = way-same u y z has l mode
in_way-same u y z has (TryTake i l mode) = way-same u y z has l mode
in_way-same u y z has (RawUp i l) = way-same u y z has l Exclusive
in_way-same u y z has (Logged e) = refl
in_way-same u y z has (PassedOver i c) = refl
in_way-same u y z has (Free i l) = refl
in_way-same u y z has (RawDown i l) = refl

-- who has nothing bars nothing
kept-by_none : (u l : ℕ) (y : List Deed) (mode : Mode) → shares u l y ≡ 0
    → keeps u y l mode ≡ false
kept-by_none u l y mode none =
    and_left (nat_lt 0 (shares u l y)) (is_exclusive (raw_mode u l y) || is_exclusive mode)
    (ap (λ n. nat_lt 0 n) none)

pub none-in_way : (u : ℕ) (y : List Deed) → ((l : ℕ) → shares u l y ≡ 0) → (d : Deed)
    → is_in_way u y d ≡ false
none-in_way u y none (Take i l mode) = kept-by_none u l y mode (none l)
none-in_way u y none (TryTake i l mode) = kept-by_none u l y mode (none l)
none-in_way u y none (RawUp i l) = kept-by_none u l y Exclusive (none l)
none-in_way u y none (Logged e) = refl
none-in_way u y none (PassedOver i c) = refl
none-in_way u y none (Free i l) = refl
none-in_way u y none (RawDown i l) = refl

pub all-none : (f : Deed → Bool) → ((d : Deed) → f d ≡ false) → (x : List Deed)
    → list_any f x ≡ false
all-none f none [] = refl
all-none f none (d ∷ x) = or_from (f d) (list_any f x) (none d) (all-none f none x)

pub any-same : (f g : Deed → Bool) → ((d : Deed) → f d ≡ g d) → (x : List Deed)
    → list_any g x ≡ false → list_any f x ≡ false
any-same f g same [] none = refl
any-same f g same (d ∷ x) none =
    let parts = or_parts (g d) (list_any g x) none in
    or_from (f d) (list_any f x) (same d ∙ parts.0) (any-same f g same x parts.1)

-- ---- a deed that could be done in w can be done in y, where its thread has what it had, and nothing
-- that others have bars it

module _ (start : Start) (files : List (List ℕ)) (w y : List Deed) where
  module _ (t : ℕ) (has : HasSame t y w) where
    get-free : (l : ℕ) (mode : Mode) → is_number start.sizes.seats t ≡ true
        → admits start.sizes.seats l mode w ≡ true
        → ((i : ℕ) → (i ≡ t → ⊥) → keeps i y l mode ≡ false)
        → admits start.sizes.seats l mode y ≡ true
    unfolding had_so
    get-free l Exclusive seat admitted free =
        all-from (λ i. eqb (shares i l y) 0)
        (λ i. elim (eqb_tells i t) [
          | inl is ↦ subst (λ k. eqb (shares k l y) 0 ≡ true) (sym is.1)
              (ap (λ n. eqb n 0) (has.counts l)
              ∙ one_thread (λ k. eqb (shares k l w) 0) start.sizes.seats t admitted seat)
          | inr other ↦ not-exclusive i l y (free i other.1)
        ]) 1 start.sizes.seats
    get-free l Shared seat admitted free =
        all-from (λ i. eqb (shares i l y) 0 || not (is_exclusive (raw_mode i l y)))
        (λ i. elim (eqb_tells i t) [
          | inl is ↦ subst (λ k. (eqb (shares k l y) 0 || not (is_exclusive (raw_mode k l y)))
              ≡ true) (sym is.1)
              (had-same (shares t l y) (shares t l w) (raw_mode t l y) (raw_mode t l w)
              (has.counts l) (has.modes l)
              (one_thread (λ k. eqb (shares k l w) 0 || not (is_exclusive (raw_mode k l w)))
              start.sizes.seats t admitted seat))
          | inr other ↦ not-shared i l y (free i other.1)
        ]) 1 start.sizes.seats

    turn-free : (l : ℕ) → is_alone start.sizes.seats t l w ≡ true
        → ((i : ℕ) → (i ≡ t → ⊥) → keeps i y l Exclusive ≡ false)
        → is_alone start.sizes.seats t l y ≡ true
    turn-free l alone free =
        let parts =
        and_parts (eqb (shares t l w) 1)
        (list_all (λ u. eqb u t || eqb (shares u l w) 0)
        (range_with_len 1 start.sizes.seats)) alone in
        and_from (eqb (shares t l y) 1)
        (list_all (λ u. eqb u t || eqb (shares u l y) 0) (range_with_len 1 start.sizes.seats))
        (ap (λ n. eqb n 1) (has.counts l) ∙ parts.0)
        (all-from (λ u. eqb u t || eqb (shares u l y) 0)
        (λ u. elim (eqb_tells u t) [
          | inl is ↦ or_left (eqb u t) (eqb (shares u l y) 0) is.0
          | inr other ↦ or_right (eqb u t) (eqb (shares u l y) 0)
              (not-exclusive u l y (free u other.1))
        ]) 1 start.sizes.seats)

  pub step-free : (d : Deed) → CanDo start files d w → HasSame (thread_of d) y w
      → ((i : ℕ) → (i ≡ thread_of d → ⊥) → is_in_way i y d ≡ false)
      → is_free start.sizes.seats d y ≡ true
  step-free (Take t l mode) can has free = get-free t has l mode can.1.0 can.1.1 free
  step-free (TryTake t l mode) can has free = get-free t has l mode can.1.0 can.1.1 free
  step-free (RawUp t l) can has free = turn-free t has l can.1.0 free
  step-free (Logged e) can has free = refl
  step-free (PassedOver t c) can has free = refl
  step-free (Free t l) can has free = refl
  step-free (RawDown t l) can has free = refl

pub kept-way : (i : ℕ) (y : List Deed) (d : Deed) → is_in_way i y (kept d) ≡ is_in_way i y d
kept-way i y (Logged e) = refl
kept-way i y (PassedOver t c) = refl
kept-way i y (Take t l mode) = refl
kept-way i y (TryTake t l mode) = refl
kept-way i y (Free t l) = refl
kept-way i y (RawUp t l) = refl
kept-way i y (RawDown t l) = refl

-- ---- what was done was barred by nobody

module _ (start : Start) (files : List (List ℕ)) where
  not-barring : (i l : ℕ) (mode : Mode) (x : List Deed) → IsWorld start files x
      → admits start.sizes.seats l mode x ≡ true → keeps i x l mode ≡ false
  not-barring i l mode x world admitted =
      elim (cases_Bool (nat_lt 0 (shares i l x))) [
        | inl had ↦
            let some = ltb-true 0 (shares i l x) had in
            let both =
            got-by start files mode x i l (has_seat start files x world i l some) some admitted in
            and_right (nat_lt 0 (shares i l x))
            (is_exclusive (raw_mode i l x) || is_exclusive mode)
            (or_from (is_exclusive (raw_mode i l x)) (is_exclusive mode) both.1 both.0)
        | inr none ↦ and_left (nat_lt 0 (shares i l x))
            (is_exclusive (raw_mode i l x) || is_exclusive mode) none
      ]

  not-turning : (i t l : ℕ) (x : List Deed) → IsWorld start files x
      → is_alone start.sizes.seats t l x ≡ true → (i ≡ t → ⊥) → keeps i x l Exclusive ≡ false
  not-turning i t l x world alone other =
      elim (cases_Bool (nat_lt 0 (shares i l x))) [
        | inl had ↦
            let some = ltb-true 0 (shares i l x) had in
            absurd (other (alone-is start.sizes.seats i l x (has_seat start files x world i l some)
            some t alone))
        | inr none ↦ and_left (nat_lt 0 (shares i l x))
            (is_exclusive (raw_mode i l x) || true) none
      ]

  pub not-in_way : (d : Deed) (x : List Deed) → IsWorld start files (d ∷ x) → (i : ℕ)
      → (i ≡ thread_of d → ⊥) → is_in_way i x d ≡ false
  not-in_way (Take t l mode) x world i other = not-barring i l mode x world.1 world.0.1.1
  not-in_way (TryTake t l mode) x world i other = not-barring i l mode x world.1 world.0.1.1
  not-in_way (RawUp t l) x world i other = not-turning i t l x world.1 world.0.1.0 other
  not-in_way (Logged e) x world i other = refl
  not-in_way (PassedOver t c) x world i other = refl
  not-in_way (Free t l) x world i other = refl
  not-in_way (RawDown t l) x world i other = refl
