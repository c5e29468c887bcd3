-- What closes for all that some reasons say closes for no reason at all; and a fact that leads to none
-- of those that may be in a circle, or is led to by none, is in no circle.
use Rattle.std.proofs.Common.{◌≡◌, ℕ, ◌<◌, ◌⊎◌, Bool, true, false, ◌&&◌, ◌||◌, eqb, List, [], ◌∷◌, ◌++◌}
use Rattle.std.proofs.Common.{Option, None, Some, slice_get, refl, ap, sym, ◌∙◌, subst, inl, inr}
use Rattle.std.proofs.Common.{⊎_elim, append-nil, not, length, zero, suc, ◌+◌, ◌≤◌, arith}
use Rattle.std.specs.List.{list_any, list_all, range_with_len}
use Rattle.std.proofs.lemmas.Bool.Decides.{eqb_tells}
use Rattle.std.proofs.lemmas.Bool.{and_parts, and_from, or_cases, or_left, or_right, eqb-true}
use Rattle.std.proofs.lemmas.Bool.{eq-eqb, true≢false, false≢true, and_cases, cases_lt}
use Rattle.std.proofs.lemmas.List.Folds.{list_any-append}
use Rattle.wit_alarms.specs.declared.facts.Fact.{Fact}
use Rattle.wit_alarms.specs.declared.facts.Lives.{Lives}
use Rattle.wit_alarms.specs.declared.facts.Reasons.{Reasons}
use Rattle.wit_alarms.specs.Facts.{at, can_meet, can_wait, of_both, leads_by, leads_round, all_pairs}
use Rattle.wit_alarms.specs.Facts.{is_wait_end, may_begin, closes, no_reasons, NoneCloses}
use Rattle.wit_alarms.specs.Searching.{HasAll, IsEnough}
use Rattle.wit_alarms.proofs.Cutting.{closed-there}
use Rattle.wit_alarms.proofs.Paths.{closed-parts, closed-from}

-- ---- fewer reasons

both-through : (p q : Fact → Fact → Bool) → ((f g : Fact) → p f g ≡ true → q f g ≡ true)
    → (facts : List Fact) (i j : ℕ) → of_both p facts i j ≡ true → of_both q facts i j ≡ true
both-through p q f facts i j is = go (slice_get facts i) (slice_get facts j) is
  where
    go : (a b : Option Fact) → at (λ x. at (p x) b) a ≡ true → at (λ x. at (q x) b) a ≡ true
    go None b is = absurd (false≢true is)
    go (Some x) None is = absurd (false≢true is)
    go (Some x) (Some y) is = f x y is

by-through : (l m : ℕ → ℕ → Bool) → ((i j : ℕ) → l i j ≡ true → m i j ≡ true)
    → (i : ℕ) (is : List ℕ) (j : ℕ) → leads_by l i is j ≡ true → leads_by m i is j ≡ true
by-through l m f i [] j is = f i j is
by-through l m f i (k ∷ ks) j is =
    let parts = and_parts (l i k) (leads_by l k ks j) is in
    and_from (m i k) (leads_by m k ks j) (f i k parts.0) (by-through l m f k ks j parts.1)

round-through : (l m : ℕ → ℕ → Bool) → ((i j : ℕ) → l i j ≡ true → m i j ≡ true)
    → (circle : List ℕ) → leads_round l circle ≡ true → leads_round m circle ≡ true
round-through l m f [] is = is
round-through l m f (i ∷ is) round = by-through l m f i is i round

all-through : (p q : ℕ → Bool) → ((i : ℕ) → p i ≡ true → q i ≡ true) → (xs : List ℕ)
    → list_all p xs ≡ true → list_all q xs ≡ true
all-through p q f [] all = refl
all-through p q f (x ∷ xs) all =
    let parts = and_parts (p x) (list_all p xs) all in
    and_from (q x) (list_all q xs) (f x parts.0) (all-through p q f xs parts.1)

pairs-through : (l m : ℕ → ℕ → Bool) → ((i j : ℕ) → l i j ≡ true → m i j ≡ true)
    → (xs : List ℕ) → all_pairs l xs ≡ true → all_pairs m xs ≡ true
pairs-through l m f [] all = refl
pairs-through l m f (x ∷ xs) all =
    let parts = and_parts (list_all (l x) xs) (all_pairs l xs) all in
    and_from (list_all (m x) xs) (all_pairs m xs) (all-through (l x) (m x) (f x) xs parts.0)
    (pairs-through l m f xs parts.1)

any-through : (p q : ℕ → Bool) → ((i : ℕ) → p i ≡ true → q i ≡ true) → (xs : List ℕ)
    → list_any p xs ≡ true → list_any q xs ≡ true
any-through p q f [] is = absurd (false≢true is)
any-through p q f (x ∷ xs) is =
    ⊎_elim (λ now. or_left (q x) (list_any q xs) (f x now))
    (λ later. or_right (q x) (list_any q xs) (any-through p q f xs later))
    (or_cases (p x) (list_any p xs) is)

-- of two sets of reasons the one has no further reason
pub record IsWithin (less more : Reasons) : Type 0 where
  pub meets : (lives : Lives) (f g : Fact) → can_meet more lives f g ≡ true
      → can_meet less lives f g ≡ true
  pub waits : (f g : Fact) → can_wait more f g ≡ true → can_wait less f g ≡ true
  pub begins : (facts : List Fact) (i : ℕ) → may_begin more facts i ≡ true
      → may_begin less facts i ≡ true

pub closes-fewer : (less more : Reasons) → IsWithin less more → (lives : Lives)
    (facts : List Fact) (circle : List ℕ) → closes more lives facts circle ≡ true
    → closes less lives facts circle ≡ true
closes-fewer less more within lives facts circle is =
    let all = closed-parts more lives facts circle is in
    closed-from less lives facts circle (record {
      round =
          round-through (of_both (can_wait more) facts) (of_both (can_wait less) facts)
          (λ i j. both-through (can_wait more) (can_wait less) within.waits facts i j) circle
          all.round;
      meet =
          pairs-through (of_both (can_meet more lives) facts) (of_both (can_meet less lives) facts)
          (λ i j. both-through (can_meet more lives) (can_meet less lives) (within.meets lives)
          facts i j) circle all.meet;
      begins =
          any-through (may_begin more facts) (may_begin less facts) (within.begins facts) circle
          all.begins;
    })

pub none-within : (why : Reasons) → IsWithin no_reasons why
none-within why = record {
  meets = λ lives f g is. refl;
  waits = λ f g is.
      let parts = and_parts (eqb f.asked.lock.0 g.held.lock.0) _ is in
      and_from (eqb f.asked.lock.0 g.held.lock.0) true parts.0 refl;
  begins = λ facts i is. go why (slice_get facts i) is;
}
  where
    go : (why : Reasons) (o : Option Fact)
        → at (λ f. not why.waits || not (is_wait_end f.manner)) o ≡ true
        → at (λ f. true) o ≡ true
    go why None is = absurd (false≢true is)
    go why (Some f) is = refl

pub enough_for : (why : Reasons) (lives : Lives) (facts : List Fact) (some : List ℕ)
    → IsEnough facts some → HasAll why lives facts some
enough_for why lives facts some enough circle i is any =
    enough lives circle i (closes-fewer no_reasons why (none-within why) lives facts circle is) any

pub none_for : (why : Reasons) (lives : Lives) (facts : List Fact)
    → NoneCloses no_reasons lives facts → NoneCloses why lives facts
none_for why lives facts none circle is =
    none circle (closes-fewer no_reasons why (none-within why) lives facts circle is)

-- ---- each fact of a circle leads to one of it, and is led to by one

module _ (leads : ℕ → ℕ → Bool) where
  next-in : (i : ℕ) (is : List ℕ) (j q : ℕ) → leads_by leads i is j ≡ true
      → list_any (eqb q) (i ∷ is) ≡ true
      → (k : ℕ) × (leads q k ≡ true) × ((list_any (eqb k) is ≡ true) ⊎ (k ≡ j))
  next-in i [] j q by any =
      ⊎_elim (λ now. (j, subst (λ x. leads x j ≡ true) (sym (eqb-true q i now)) by, inr refl))
      (λ none. absurd (false≢true none)) (or_cases (eqb q i) false any)
  next-in i (k ∷ ks) j q by any =
      let parts = and_parts (leads i k) (leads_by leads k ks j) by in
      ⊎_elim
      (λ now. (
        k,
        subst (λ x. leads x k ≡ true) (sym (eqb-true q i now)) parts.0,
        inl (or_left (eqb k k) (list_any (eqb k) ks) (eq-eqb k k refl)),
      ))
      (λ later.
      let rest = next-in k ks j q parts.1 later in (
        rest.0,
        rest.1,
        ⊎_elim (λ one. inl (or_right (eqb rest.0 k) (list_any (eqb rest.0) ks) one))
            (λ two. inr two) rest.2,
      ))
      (or_cases (eqb q i) (list_any (eqb q) (k ∷ ks)) any)

  previous-in : (i : ℕ) (is : List ℕ) (j q : ℕ) → leads_by leads i is j ≡ true
      → (list_any (eqb q) is ≡ true) ⊎ (q ≡ j)
      → (k : ℕ) × (leads k q ≡ true) × (list_any (eqb k) (i ∷ is) ≡ true)
  previous-in i [] j q by (inl none) = absurd (false≢true none)
  previous-in i [] j q by (inr is) = (
    i,
    subst (λ x. leads i x ≡ true) (sym is) by,
    or_left (eqb i i) false (eq-eqb i i refl),
  )
  previous-in i (k ∷ ks) j q by (inl any) =
      let parts = and_parts (leads i k) (leads_by leads k ks j) by in
      ⊎_elim
      (λ now. (
        i,
        subst (λ x. leads i x ≡ true) (sym (eqb-true q k now)) parts.0,
        or_left (eqb i i) (list_any (eqb i) (k ∷ ks)) (eq-eqb i i refl),
      ))
      (λ later.
      let rest = previous-in k ks j q parts.1 (inl later) in
      (rest.0, rest.1, or_right (eqb rest.0 i) (list_any (eqb rest.0) (k ∷ ks)) rest.2))
      (or_cases (eqb q k) (list_any (eqb q) ks) any)
  previous-in i (k ∷ ks) j q by (inr is) =
      let parts = and_parts (leads i k) (leads_by leads k ks j) by in
      let rest = previous-in k ks j q parts.1 (inr is) in
      (rest.0, rest.1, or_right (eqb rest.0 i) (list_any (eqb rest.0) (k ∷ ks)) rest.2)

  next-round : (circle : List ℕ) (q : ℕ) → leads_round leads circle ≡ true
      → list_any (eqb q) circle ≡ true
      → (k : ℕ) × (leads q k ≡ true) × (list_any (eqb k) circle ≡ true)
  next-round [] q round any = absurd (false≢true any)
  next-round (i ∷ is) q round any =
      let next = next-in i is i q round any in (
        next.0,
        next.1,
        ⊎_elim (λ one. or_right (eqb next.0 i) (list_any (eqb next.0) is) one)
            (λ two. or_left (eqb next.0 i) (list_any (eqb next.0) is) (eq-eqb next.0 i two)) next.2,
      )

  previous-round : (circle : List ℕ) (q : ℕ) → leads_round leads circle ≡ true
      → list_any (eqb q) circle ≡ true
      → (k : ℕ) × (leads k q ≡ true) × (list_any (eqb k) circle ≡ true)
  previous-round [] q round any = absurd (false≢true any)
  previous-round (i ∷ is) q round any =
      previous-in i is i q round
      (⊎_elim (λ one. inr (eqb-true q i one)) (λ two. inl two)
      (or_cases (eqb q i) (list_any (eqb q) is) any))

-- ---- so what isn't both isn't needed

any-there : (p : ℕ → Bool) (k : ℕ) (xs : List ℕ) → p k ≡ true → list_any (eqb k) xs ≡ true
    → list_any p xs ≡ true
any-there p k [] is any = absurd (false≢true any)
any-there p k (x ∷ xs) is any =
    ⊎_elim
    (λ now. or_left (p x) (list_any p xs) (subst (λ y. p y ≡ true) (eqb-true k x now) is))
    (λ later. or_right (p x) (list_any p xs) (any-there p k xs is later))
    (or_cases (eqb k x) (list_any (eqb k) xs) any)

abbrev linked : List Fact → ℕ → ℕ → Bool
linked facts i j = of_both (can_wait no_reasons) facts i j

dropped : (x q : ℕ) (kept rest : List ℕ) → (q ≡ x → ⊥)
    → list_any (eqb q) (kept ++ x ∷ rest) ≡ true → list_any (eqb q) (kept ++ rest) ≡ true
dropped x q kept rest other any =
    list_any-append (eqb q) kept rest
    ∙ ⊎_elim (λ one. or_left (list_any (eqb q) kept) (list_any (eqb q) rest) one)
    (λ later.
    ⊎_elim (λ now. absurd (other (eqb-true q x now)))
    (λ two. or_right (list_any (eqb q) kept) (list_any (eqb q) rest) two)
    (or_cases (eqb q x) (list_any (eqb q) rest) later))
    (or_cases (list_any (eqb q) kept) (list_any (eqb q) (x ∷ rest))
    (sym (list_any-append (eqb q) kept (x ∷ rest)) ∙ any))

module _ (facts : List Fact) (kept rest : List ℕ) (x : ℕ)
    (enough : IsEnough facts (kept ++ x ∷ rest)) where
  -- who is in a circle has both
  has-next : (lives : Lives) (circle : List ℕ) → closes no_reasons lives facts circle ≡ true
      → list_any (eqb x) circle ≡ true
      → list_any (linked facts x) (kept ++ x ∷ rest) ≡ true
  has-next lives circle is any =
      let round = (closed-parts no_reasons lives facts circle is).round in
      let next = next-round (linked facts) circle x round any in
      any-there (linked facts x) next.0 (kept ++ x ∷ rest) next.1
      (enough lives circle next.0 is next.2)

  has-previous : (lives : Lives) (circle : List ℕ) → closes no_reasons lives facts circle ≡ true
      → list_any (eqb x) circle ≡ true
      → list_any (λ k. linked facts k x) (kept ++ x ∷ rest) ≡ true
  has-previous lives circle is any =
      let round = (closed-parts no_reasons lives facts circle is).round in
      let previous = previous-round (linked facts) circle x round any in
      any-there (λ k. linked facts k x) previous.0 (kept ++ x ∷ rest) previous.1
      (enough lives circle previous.0 is previous.2)

  without : ((lives : Lives) (circle : List ℕ) → closes no_reasons lives facts circle ≡ true
      → list_any (eqb x) circle ≡ true → ⊥) → IsEnough facts (kept ++ rest)
  without never lives circle q is any =
      dropped x q kept rest
      (λ same. never lives circle is (subst (λ k. list_any (eqb k) circle ≡ true) same any))
      (enough lives circle q is any)

  pub without_next : list_any (linked facts x) (kept ++ x ∷ rest) ≡ false
      → IsEnough facts (kept ++ rest)
  without_next none =
      without (λ lives circle is any. true≢false (sym (has-next lives circle is any) ∙ none))

  pub without_previous : list_any (λ k. linked facts k x) (kept ++ x ∷ rest) ≡ false
      → IsEnough facts (kept ++ rest)
  without_previous none =
      without (λ lives circle is any. true≢false (sym (has-previous lives circle is any) ∙ none))

pub without_either : (facts : List Fact) (kept rest : List ℕ) (x : ℕ)
    → IsEnough facts (kept ++ x ∷ rest)
    → (list_any (linked facts x) (kept ++ x ∷ rest)
    && list_any (λ k. linked facts k x) (kept ++ x ∷ rest)) ≡ false
    → IsEnough facts (kept ++ rest)
without_either facts kept rest x enough none =
    ⊎_elim (without_next facts kept rest x enough) (without_previous facts kept rest x enough)
    (and_cases (list_any (linked facts x) (kept ++ x ∷ rest))
    (list_any (λ k. linked facts k x) (kept ++ x ∷ rest)) none)

in-range : (q a n : ℕ) → a ≤ q → q < a + n → list_any (eqb q) (range_with_len a n) ≡ true
in-range q a zero low high = absurd (omega (arith, low, high))
in-range q a (suc n) low high =
    elim (eqb_tells q a) [
      | inl here ↦ or_left (eqb q a) (list_any (eqb q) (range_with_len (a + 1) n)) here.0
      | inr there ↦
          let other = there.1 in
          or_right (eqb q a) (list_any (eqb q) (range_with_len (a + 1) n))
          (in-range q (a + 1) n (omega (arith, low, other)) (omega (arith, high)))
    ]

-- a circle has only facts that there are
pub all_enough : (facts : List Fact) (places : List ℕ) → places ≡ range_with_len 0 (length facts)
    → IsEnough facts places
all_enough facts places all lives circle q is any =
    subst (λ xs. list_any (eqb q) xs ≡ true) (sym all)
    (let low = closed-there no_reasons lives facts circle q is any in
    in-range q 0 (length facts) (omega arith) (omega (arith, low)))

pub none-left : (facts : List Fact) (kept rest : List ℕ) → length rest ≡ 0
    → IsEnough facts (kept ++ rest) → IsEnough facts kept
none-left facts kept [] none enough =
    subst (λ xs. IsEnough facts xs) (append-nil kept) enough
none-left facts kept (x ∷ rest) none enough = absurd (omega (arith, none))

from-there : (a n : ℕ) → range_with_len a (suc n) ≡ range_with_len a n ++ (a + n) ∷ []
from-there a zero = let same : a ≡ a + 0 = omega arith in ap (λ k. k ∷ []) same
from-there a (suc n) =
    let same : (a + 1) + n ≡ a + suc n = omega arith in
    ap (λ r. a ∷ r) (from-there (a + 1) n
    ∙ ap (λ k. range_with_len (a + 1) n ++ k ∷ []) same)

-- one place more
pub range_more : (n : ℕ) → range_with_len 0 (n + 1) ≡ range_with_len 0 n ++ n ∷ []
range_more n =
    let more : n + 1 ≡ suc n = omega arith in
    let none : 0 + n ≡ n = omega arith in
    ap (λ k. range_with_len 0 k) more
    ∙ (from-there 0 n ∙ ap (λ k. range_with_len 0 n ++ k ∷ []) none)

-- where none is needed there is no circle of single locks
pub none_needed : (lives : Lives) (facts : List Fact) (places : List ℕ) → length places ≡ 0
    → IsEnough facts places → NoneCloses no_reasons lives facts
none_needed lives facts [] none enough [] is = false≢true is
none_needed lives facts [] none enough (i ∷ circle) is =
    false≢true (enough lives (i ∷ circle) i is
    (or_left (eqb i i) (list_any (eqb i) circle) (eq-eqb i i refl)))
none_needed lives facts (x ∷ places) none enough circle is = omega (arith, none)

pub below_more : (P : ℕ → Type 0) (n : ℕ) → ((k : ℕ) → k < n → P k) → P n
    → (k : ℕ) → k < n + 1 → P k
below_more P n below here k low =
    ⊎_elim (λ less. below k less)
    (λ above. let same : n ≡ k = omega (arith, above, low) in subst P same here) (cases_lt k n)
