-- What a thread got by a try, up to its request: another thread that needs the lock by a try can't get it
-- after that.
use Rattle.std.proofs.Common.{◌≡◌, ℕ, ◌≤◌, Bool, true, false, ◌&&◌, ◌||◌, not, eqb, nat_lt, List}
use Rattle.std.proofs.Common.{[], ◌∷◌, map, length, refl, ap, ap₂, sym, ◌∙◌, subst, inl}
use Rattle.std.proofs.Common.{inr, arith}
use Rattle.std.specs.List.{list_any}
use Rattle.std.proofs.lemmas.Bool.{cases_Bool, and_parts, or_cases, or_from, eqb-true, ne_eqb}
use Rattle.std.proofs.lemmas.Bool.{not-true, ltb-true, true≢false, false≢true, and_left}
use Rattle.std.proofs.lemmas.List.{length-map}
use Rattle.wit_model.specs.declared.locks.Mode.{Mode}
use Rattle.wit_model.specs.declared.locks.Mode.TheVariants.{Exclusive, Shared}
use Rattle.wit_model.specs.Rules.History.{mode}
use Rattle.wit_model.specs.Rules.Verdict.{is_exclusive}
use Rattle.wit_model.specs.World.Deeds.{Deed, Logged, PassedOver, Take, TryTake, Free, RawUp}
use Rattle.wit_model.specs.World.Deeds.{RawDown, thread_of, own, shares}
use Rattle.wit_model.specs.World.Stages.{stage}
use Rattle.wit_model.specs.World.Steps.{IsWorld}
use Rattle.wit_model.specs.World.Steps.{admits}
use Rattle.wit_model.specs.World.Reordering.{kept}
use Rattle.wit_model.specs.World.Examples.{small}
use Rattle.wit_model.proofs.World.Exclusion.{none-had}
use Rattle.wit_model.proofs.World.Own.{own-mine, own-other}
use Rattle.wit_model.specs.Rules.Numbers.{is_number}
use Rattle.wit_errands.specs.Settled.{gets}
use Rattle.wit_errands.proofs.EachMoment.{is_asking}
use Rattle.wit_errands.proofs.Looks.{Alike, shares-alike, stage-alike}

-- ---- what each thread has got by a try

unfoldable pub got : ℕ → ℕ → Deed → Bool
got t l (TryTake u m mode) = (eqb u t && eqb m l) && is_exclusive mode
got t l _ = false

unfoldable pub did : ℕ → ℕ → List Deed → Bool
did t l w = list_any (got t l) (own t w)

-- up to its request, after so many deeds of its own, t has lock k once it got lock l by a try; and
-- it asks then, or while it has nothing
unfoldable pub stands : ℕ → ℕ → ℕ → ℕ → List Deed → Bool
stands t l k most now =
    nat_lt most (length (own t now))
    || (not (did t l now) || nat_lt 0 (shares t k now))

unfoldable pub asks_so : ℕ → ℕ → ℕ → List Deed → Bool
asks_so t l most now =
    not (is_asking (stage t (own t now)))
    || ((eqb (length (own t now)) most && did t l now) || not (list_any gets (own t now)))

-- ---- as it looks

any-kept : (p : Deed → Bool) → ((d : Deed) → p (kept d) ≡ p d) → (o : List Deed)
    → list_any p (map kept o) ≡ list_any p o
any-kept p same [] = refl
any-kept p same (d ∷ o) = ap₂ (λ a b. a || b) (same d) (any-kept p same o)

any-alike : (p : Deed → Bool) → ((d : Deed) → p (kept d) ≡ p d) → (t : ℕ) (v w : List Deed)
    → Alike t v w → list_any p (own t v) ≡ list_any p (own t w)
any-alike p same t v w alike =
    sym (any-kept p same (own t v))
    ∙ (ap (λ o. list_any p o) alike ∙ any-kept p same (own t w))

got-kept : (t l : ℕ) (d : Deed) → got t l (kept d) ≡ got t l d
unfolding got
got-kept t l (Logged e) = refl
got-kept t l (PassedOver u c) = refl
got-kept t l (Take u m mode) = refl
got-kept t l (TryTake u m mode) = refl
got-kept t l (Free u m) = refl
got-kept t l (RawUp u m) = refl
got-kept t l (RawDown u m) = refl

gets-kept : (d : Deed) → gets (kept d) ≡ gets d
gets-kept (Logged e) = refl
gets-kept (PassedOver u c) = refl
gets-kept (Take u m mode) = refl
gets-kept (TryTake u m mode) = refl
gets-kept (Free u m) = refl
gets-kept (RawUp u m) = refl
gets-kept (RawDown u m) = refl

long-alike : (t : ℕ) (v w : List Deed) → Alike t v w → length (own t v) ≡ length (own t w)
long-alike t v w alike =
    let one = length-map (own t v) kept in
    let two = length-map (own t w) kept in
    let both = ap (λ o. length o) alike in omega (arith, one, two, both)

pub stands-alike : (t l k most : ℕ) (v w : List Deed) → Alike t v w
    → stands t l k most v ≡ stands t l k most w
unfolding stands did
stands-alike t l k most v w alike =
    ap₂ (λ n b. nat_lt most n || (not b || nat_lt 0 (shares t k v))) (long-alike t v w alike)
    (any-alike (got t l) (got-kept t l) t v w alike)
    ∙ ap (λ n. nat_lt most (length (own t w)) || (not (list_any (got t l) (own t w))
    || nat_lt 0 n)) (shares-alike t k v w alike)

pub asks-alike : (t l most : ℕ) (v w : List Deed) → Alike t v w
    → asks_so t l most v ≡ asks_so t l most w
unfolding asks_so did
asks-alike t l most v w alike =
    ap₂ (λ s n. not (is_asking s) || ((eqb n most && list_any (got t l) (own t v))
    || not (list_any gets (own t v)))) (stage-alike t v w alike) (long-alike t v w alike)
    ∙ ap₂ (λ a b. not (is_asking (stage t (own t w)))
    || ((eqb (length (own t w)) most && a) || not b))
    (any-alike (got t l) (got-kept t l) t v w alike)
    (any-alike gets gets-kept t v w alike)

-- ---- tries

got-other : (t l : ℕ) (d : Deed) → eqb (thread_of d) t ≡ false → got t l d ≡ false
unfolding got
got-other t l (TryTake u m mode) is =
    and_left (eqb u t && eqb m l) (is_exclusive mode) (and_left (eqb u t) (eqb m l) is)
got-other t l (Logged e) is = refl
got-other t l (PassedOver u c) is = refl
got-other t l (Take u m mode) is = refl
got-other t l (Free u m) is = refl
got-other t l (RawUp u m) is = refl
got-other t l (RawDown u m) is = refl

got-thread : (t l : ℕ) (d : Deed) → got t l d ≡ true → thread_of d ≡ t
got-thread t l d is =
    elim (cases_Bool (eqb (thread_of d) t)) [
      | inl same ↦ eqb-true (thread_of d) t same
      | inr other ↦ absurd (true≢false (sym is ∙ got-other t l d other))
    ]

pub did-step : (t l : ℕ) (d : Deed) (y : List Deed) → did t l (d ∷ y) ≡ (got t l d || did t l y)
unfolding did
did-step t l d y =
    elim (cases_Bool (eqb (thread_of d) t)) [
      | inl is ↦ ap (λ o. list_any (got t l) o) (own-mine t d y is)
      | inr is ↦ ap (λ o. list_any (got t l) o) (own-other t d y is)
          ∙ sym (ap (λ b. b || list_any (got t l) (own t y)) (got-other t l d is))
    ]

by-mode : (seats m : ℕ) (mode : Mode) (y : List Deed) → is_exclusive mode ≡ true
    → admits seats m mode y ≡ true → admits seats m Exclusive y ≡ true
by-mode seats m Exclusive y is free = free
by-mode seats m Shared y is free = absurd (false≢true is)

module _ (files' : List (List ℕ)) where
  got-admits : (t l : ℕ) (d : Deed) (y : List Deed) → got t l d ≡ true
      → IsWorld small files' (d ∷ y) → admits small.sizes.seats l Exclusive y ≡ true
  unfolding got
  got-admits t l (TryTake u m mode) y is world =
      let parts = and_parts (eqb u t && eqb m l) (is_exclusive mode) is in
      let both = and_parts (eqb u t) (eqb m l) parts.0 in
      subst (λ k. admits small.sizes.seats k Exclusive y ≡ true) (eqb-true m l both.1)
      (by-mode small.sizes.seats m mode y parts.1 world.0.1.1)
  got-admits t l (Logged e) y is world = absurd (false≢true is)
  got-admits t l (PassedOver u c) y is world = absurd (false≢true is)
  got-admits t l (Take u m mode) y is world = absurd (false≢true is)
  got-admits t l (Free u m) y is world = absurd (false≢true is)
  got-admits t l (RawUp u m) y is world = absurd (false≢true is)
  got-admits t l (RawDown u m) y is world = absurd (false≢true is)

  -- where u has lock l once it tried, and no more than up to its request was done
  module _ (t l u m most : ℕ) (seat : is_number small.sizes.seats u ≡ true) (apart : t ≡ u → ⊥)
    where
      pub try-fails : (d : Deed) (y : List Deed) → IsWorld small files' (d ∷ y) → got t l d ≡ true
          → stands u m l most y ≡ true → length (own u y) ≤ most → did u m (d ∷ y) ≡ false
      unfolding stands
      try-fails d y world is here short =
          did-step u m d y
          ∙ or_from (got u m d) (did u m y)
          (got-other u m d (ap (λ n. eqb n u) (got-thread t l d is) ∙ ne_eqb t u apart))
          (elim (or_cases (nat_lt most (length (own u y)))
          (not (did u m y) || nat_lt 0 (shares u l y)) here) [
            | inl long ↦ absurd (let more = ltb-true most (length (own u y)) long in
                let no : ⊥ = omega (arith, more, short) in no)
            | inr either ↦
                elim (or_cases (not (did u m y)) (nat_lt 0 (shares u l y)) either) [
                  | inl none ↦ not-true (did u m y) none
                  | inr had ↦ absurd (none-had small.sizes.seats u l y seat
                      (ltb-true 0 (shares u l y) had) (got-admits t l d y is world))
                ]
          ])
