-- A circle that closes has one within it in which each fact stands once.
use Rattle.std.proofs.Common.{◌≡◌, ℕ, zero, suc, ◌<◌, ◌≤◌, ◌⊎◌, Bool, true, false, not, ◌&&◌}
use Rattle.std.proofs.Common.{eqb, List, [], ◌∷◌, ◌++◌, length, slice_get}
use Rattle.std.proofs.Common.{refl, ap, sym, ◌∙◌, subst, inl, inr, ⊎_elim, arith, length-append}
use Rattle.std.proofs.Common.{Option, None, Some, Result, Ok, Err, IfOk, IfNone}
use Rattle.std.specs.List.{list_any, list_all, AllByRecursion, IsDistinct}
use Rattle.std.proofs.lemmas.Bool.{and_parts, and_from, or_cases, or_left, or_right, not-true}
use Rattle.std.proofs.lemmas.Bool.{eqb-true, false≢true}
use Rattle.std.proofs.lemmas.Bool.Decides.{eqb_tells}
use Rattle.std.proofs.lemmas.List.Folds.{list_all-append, list_any-append}
use Rattle.std.proofs.lemmas.Map.Steps.{length-le_from_distinct_below}
use Rattle.wit_alarms.specs.declared.facts.Fact.{Fact}
use Rattle.wit_alarms.specs.declared.facts.Lives.{Lives}
use Rattle.wit_alarms.specs.declared.facts.Reasons.{Reasons}
use Rattle.wit_alarms.specs.Facts.{at, can_meet, can_wait, of_both, leads_by, leads_round, all_pairs}
use Rattle.wit_alarms.specs.Facts.{may_begin, closes, NoneCloses}
use Rattle.wit_alarms.specs.Searching.{differ, each_once, NoneGoesOn}
use Rattle.wit_alarms.proofs.Paths.{and_regroup, closed-parts, closed-from, pairs-front}

-- ---- what stands twice

record Occurs (t : ℕ) (ts : List ℕ) : Type 0 where
  before : List ℕ
  after : List ℕ
  whole : ts ≡ before ++ t ∷ after

all-or : (t : ℕ) (ts : List ℕ) → (list_all (differ t) ts ≡ true) ⊎ Occurs t ts
all-or t [] = inl refl
all-or t (u ∷ ts) =
    elim (eqb_tells t u) [
      | inl same ↦ inr (record { before = []; after = ts; whole = ap (λ k. k ∷ ts) (sym same.1) })
      | inr other ↦
          ⊎_elim
          (λ all. inl (and_from (differ t u) (list_all (differ t) ts)
          (ap not other.0) all))
          (λ there. inr (record {
            before = u ∷ there.before;
            after = there.after;
            whole = ap (λ k. u ∷ k) there.whole;
          }))
          (all-or t ts)
    ]

record Twice (ts : List ℕ) : Type 0 where
  front : List ℕ
  place : ℕ
  mid : List ℕ
  rest : List ℕ
  whole : ts ≡ front ++ place ∷ (mid ++ place ∷ rest)

once-or : (ts : List ℕ) → (each_once ts ≡ true) ⊎ Twice ts
once-or [] = inl refl
once-or (t ∷ ts) =
    ⊎_elim
    (λ once.
    ⊎_elim
    (λ all. inl (and_from (list_all (differ t) ts) (each_once ts) all once))
    (λ there. inr (record {
      front = [];
      place = t;
      mid = there.before;
      rest = there.after;
      whole = ap (λ k. t ∷ k) there.whole;
    }))
    (all-or t ts))
    (λ twice. inr (record {
      front = t ∷ twice.front;
      place = twice.place;
      mid = twice.mid;
      rest = twice.rest;
      whole = ap (λ k. t ∷ k) twice.whole;
    }))
    (once-or ts)

-- ---- leading round by the one part, and by the other

module _ (leads : ℕ → ℕ → Bool) where
  by-through : (i : ℕ) (a : List ℕ) (x : ℕ) (b : List ℕ) (j : ℕ)
      → leads_by leads i (a ++ x ∷ b) j ≡ (leads_by leads i a x && leads_by leads x b j)
  by-through i [] x b j = refl
  by-through i (k ∷ ks) x b j =
      ap (λ c. leads i k && c) (by-through k ks x b j)
      ∙ and_regroup (leads i k) (leads_by leads k ks x) (leads_by leads x b j)

  parts-round : (front : List ℕ) (x : ℕ) (mid rest : List ℕ)
      → leads_round leads (front ++ x ∷ (mid ++ x ∷ rest)) ≡ true
      → (leads_round leads (x ∷ mid) ≡ true) × (leads_round leads (front ++ x ∷ rest) ≡ true)
  parts-round [] x mid rest round =
      and_parts (leads_by leads x mid x) (leads_by leads x rest x)
      (sym (by-through x mid x rest x) ∙ round)
  parts-round (i ∷ a) x mid rest round =
      let one =
      and_parts (leads_by leads i a x) (leads_by leads x (mid ++ x ∷ rest) i)
      (sym (by-through i a x (mid ++ x ∷ rest) i) ∙ round) in
      let two =
      and_parts (leads_by leads x mid x) (leads_by leads x rest i)
      (sym (by-through x mid x rest i) ∙ one.1) in (
        two.0,
        by-through i a x rest i
            ∙ and_from (leads_by leads i a x) (leads_by leads x rest i) one.0 two.1,
      )

module _ (p : ℕ → ℕ → Bool) where
  pairs-back : (m c : List ℕ) → all_pairs p (m ++ c) ≡ true → all_pairs p c ≡ true
  pairs-back [] c all = all
  pairs-back (x ∷ m) c all =
      pairs-back m c (and_parts (list_all (p x) (m ++ c)) (all_pairs p (m ++ c)) all).1

  pairs-drop : (a m c : List ℕ) → all_pairs p (a ++ (m ++ c)) ≡ true → all_pairs p (a ++ c) ≡ true
  pairs-drop [] m c all = pairs-back m c all
  pairs-drop (x ∷ a) m c all =
      let parts = and_parts (list_all (p x) (a ++ (m ++ c))) (all_pairs p (a ++ (m ++ c))) all in
      let front =
      and_parts (list_all (p x) a) (list_all (p x) (m ++ c))
      (sym (list_all-append (p x) a (m ++ c)) ∙ parts.0) in
      let back =
      and_parts (list_all (p x) m) (list_all (p x) c)
      (sym (list_all-append (p x) m c) ∙ front.1) in
      and_from (list_all (p x) (a ++ c)) (all_pairs p (a ++ c))
      (list_all-append (p x) a c
      ∙ and_from (list_all (p x) a) (list_all (p x) c) front.0 back.1)
      (pairs-drop a m c parts.1)

any-part : (q : ℕ → Bool) (a m c : List ℕ) → list_any q (a ++ (m ++ c)) ≡ true
    → (list_any q m ≡ true) ⊎ (list_any q (a ++ c) ≡ true)
any-part q a m c is =
    ⊎_elim
    (λ one. inr (list_any-append q a c ∙ or_left (list_any q a) (list_any q c) one))
    (λ later.
    ⊎_elim (λ two. inl two)
    (λ three. inr (list_any-append q a c ∙ or_right (list_any q a) (list_any q c) three))
    (or_cases (list_any q m) (list_any q c) (sym (list_any-append q m c) ∙ later)))
    (or_cases (list_any q a) (list_any q (m ++ c)) (sym (list_any-append q a (m ++ c)) ∙ is))

module _ (why : Reasons) (lives : Lives) (facts : List Fact) where
  abbrev Closes : List ℕ → Type 0
  Closes circle = closes why lives facts circle ≡ true

  part-closes : (front : List ℕ) (x : ℕ) (mid rest : List ℕ)
      → Closes (front ++ x ∷ (mid ++ x ∷ rest)) → Closes (x ∷ mid) ⊎ Closes (front ++ x ∷ rest)
  part-closes front x mid rest is =
      let all = closed-parts why lives facts (front ++ x ∷ (mid ++ x ∷ rest)) is in
      let rounds = parts-round (of_both (can_wait why) facts) front x mid rest all.round in
      let meets = of_both (can_meet why lives) facts in
      ⊎_elim
      (λ inner. inl (closed-from why lives facts (x ∷ mid) (record {
        round = rounds.0;
        meet =
            pairs-front meets (x ∷ mid) (x ∷ rest)
            (pairs-back meets front (x ∷ (mid ++ x ∷ rest)) all.meet);
        begins = inner;
      })))
      (λ outer. inr (closed-from why lives facts (front ++ x ∷ rest) (record {
        round = rounds.1;
        meet = pairs-drop meets front (x ∷ mid) (x ∷ rest) all.meet;
        begins = outer;
      })))
      (any-part (may_begin why facts) front (x ∷ mid) (x ∷ rest) all.begins)

  record Once : Type 0 where
    circle : List ℕ
    is : Closes circle
    once : each_once circle ≡ true

  cut : (n : ℕ) (circle : List ℕ) → length circle ≤ n → Closes circle → Once
  cut zero [] short is = absurd (false≢true is)
  cut zero (i ∷ circle) short is = absurd (omega (arith, short))
  cut (suc n) circle short is =
      ⊎_elim
      (λ once. record { circle = circle; is = is; once = once })
      (λ twice.
      let whole = ap length twice.whole in
      let sum =
      length-append twice.front (twice.place ∷ (twice.mid ++ twice.place ∷ twice.rest)) in
      let more = length-append twice.mid (twice.place ∷ twice.rest) in
      let less = length-append twice.front (twice.place ∷ twice.rest) in
      ⊎_elim
      (λ inner. cut n (twice.place ∷ twice.mid) (omega (arith, short, whole, sum, more)) inner)
      (λ outer.
      cut n (twice.front ++ twice.place ∷ twice.rest)
      (omega (arith, short, whole, sum, more, less)) outer)
      (part-closes twice.front twice.place twice.mid twice.rest
      (subst Closes twice.whole is)))
      (once-or circle)

  -- ---- it has no more facts than there are

  there : (p : Fact → Bool) (fs : List Fact) (i : ℕ) → at p (slice_get fs i) ≡ true → i < length fs
  there p [] i is = absurd (false≢true is)
  there p (f ∷ fs) zero is = omega arith
  there p (f ∷ fs) (suc i) is = let low = there p fs i is in omega (arith, low)

  waits-there : (i j : ℕ) → of_both (can_wait why) facts i j ≡ true → i < length facts
  waits-there i j is = there (λ f. at (can_wait why f) (slice_get facts j)) facts i is

  queue-there : (i : ℕ) (is : List ℕ) (j q : ℕ)
      → leads_by (of_both (can_wait why) facts) i is j ≡ true
      → list_any (eqb q) (i ∷ is) ≡ true → q < length facts
  queue-there i [] j q leads any =
      ⊎_elim
      (λ now. subst (λ k. k < length facts) (sym (eqb-true q i now)) (waits-there i j leads))
      (λ none. absurd (false≢true none))
      (or_cases (eqb q i) false any)
  queue-there i (k ∷ ks) j q leads any =
      let parts =
      and_parts (of_both (can_wait why) facts i k)
      (leads_by (of_both (can_wait why) facts) k ks j) leads in
      ⊎_elim
      (λ now. subst (λ x. x < length facts) (sym (eqb-true q i now)) (waits-there i k parts.0))
      (λ later. queue-there k ks j q parts.1 later)
      (or_cases (eqb q i) (list_any (eqb q) (k ∷ ks)) any)

  pub closed-there : (circle : List ℕ) (q : ℕ) → Closes circle
      → list_any (eqb q) circle ≡ true → q < length facts
  closed-there [] q is any = absurd (false≢true any)
  closed-there (i ∷ is) q closed any =
      queue-there i is i q (closed-parts why lives facts (i ∷ is) closed).round any

  all-apart : (x : ℕ) (xs : List ℕ) → list_all (differ x) xs ≡ true
      → AllByRecursion (λ y. eqb x y ≡ false) xs
  all-apart x [] all = tt
  all-apart x (y ∷ xs) all =
      let parts = and_parts (differ x y) (list_all (differ x) xs) all in
      (not-true (eqb x y) parts.0, all-apart x xs parts.1)

  distinct : (xs : List ℕ) → each_once xs ≡ true → IsDistinct eqb xs
  unfolding IsDistinct
  distinct [] once = tt
  distinct (x ∷ xs) once =
      let parts = and_parts (list_all (differ x) xs) (each_once xs) once in
      (all-apart x xs parts.0, distinct xs parts.1)

  longer : (circle : List ℕ) → Closes circle → 0 < length circle
  longer [] is = absurd (false≢true is)
  longer (i ∷ is) closed = omega arith

  -- a search of all paths finds each circle that closes
  pub none_closes : NoneGoesOn why lives facts [] (length facts) → NoneCloses why lives facts
  none_closes none circle is =
      let within = cut (length circle) circle (omega arith) is in
      none within.circle (longer within.circle within.is)
      (length-le_from_distinct_below within.circle (length facts) (distinct within.circle within.once)
      (λ q any. closed-there within.circle q within.is any))
      within.once within.is

-- what follows where nothing was found
pub if_none_found : {X E A B : Type 0} → (A → B) → (r : Result (Option X) E)
    → IfOk r (λ found. IfNone found A) → IfOk r (λ found. IfNone found B)
if_none_found f (Ok None) is = f is
if_none_found f (Ok (Some x)) is = is
if_none_found f (Err e) is = is
