-- What a circle that closes says, from its tests.
use Rattle.std.proofs.Common.{◌≡◌, ℕ, ◌<◌, Bool, true, false, not, ◌&&◌, ◌||◌, eqb}
use Rattle.std.proofs.Common.{List, [], ◌∷◌, Option, None, Some, slice_get}
use Rattle.std.proofs.Common.{refl, ap, sym, ◌∙◌, subst, arith}
use Rattle.std.specs.List.{list_any, list_all, AllByRecursion, Contains}
use Rattle.std.proofs.lemmas.Bool.{and_parts, or_parts, eqb-true, eq-eqb, not-true}
use Rattle.std.proofs.lemmas.Bool.{true≢false, false≢true, false_from_ne_true}
use Rattle.std.proofs.lemmas.List.Folds.{list_any_at}
use Rattle.wit_model.specs.Rules.Circles.{IsQueue, IsCircle}
use Rattle.wit_model.specs.Rules.Verdict.{is_exclusive}
use Rattle.wit_alarms.specs.declared.facts.ThreadNo.{ThreadNo}
use Rattle.wit_alarms.specs.declared.facts.Had.{Had}
use Rattle.wit_alarms.specs.declared.facts.Fact.{Fact}
use Rattle.wit_alarms.specs.declared.facts.Lives.{Lives}
use Rattle.wit_alarms.specs.Lives.{is_thread, are_two, are_apart}
use Rattle.wit_alarms.specs.Facts.{at, excludes, locks_held, has_gate, can_meet, is_timed, is_kept_out}
use Rattle.wit_alarms.specs.Facts.{can_wait, of_both, leads_by, leads_round, all_pairs, closes}
use Rattle.wit_alarms.specs.Facts.{all_reasons, no_reasons, NoneCloses}
use Rattle.wit_alarms.specs.SameMeansSo.{Compatible, WaitsFor, OfPlaces, EachTwo}
use Rattle.wit_alarms.proofs.Paths.{closed-parts}

-- ---- of places and their facts

of-places : (facts : List Fact) (p : Fact → Fact → Bool) (R : Fact → Fact → Type 0)
    → ((f g : Fact) → p f g ≡ true → R f g) → (i j : ℕ) → of_both p facts i j ≡ true
    → OfPlaces facts R i j
of-places facts p R so i j is = go (slice_get facts i) (slice_get facts j) refl refl is
  where
    go : (a b : Option Fact) → slice_get facts i ≡ a → slice_get facts j ≡ b
        → at (λ f. at (p f) b) a ≡ true → OfPlaces facts R i j
    go None b one two is = absurd (false≢true is)
    go (Some f) None one two is = absurd (false≢true is)
    go (Some f) (Some g) one two is =
        record { one = f; other = g; first = one; second = two; is = so f g is }

-- ---- who waits for whom

waits-for : (f g : Fact) → can_wait all_reasons f g ≡ true → WaitsFor f g
waits-for f g is =
    let one =
    and_parts (eqb f.asked.lock.0 g.held.lock.0)
    ((is_exclusive f.asked.mode || is_exclusive g.held.mode)
    && (not (is_timed f.manner) && not (is_kept_out f g))) is in
    let two =
    and_parts (is_exclusive f.asked.mode || is_exclusive g.held.mode)
    (not (is_timed f.manner) && not (is_kept_out f g)) one.1 in
    let three = and_parts (not (is_timed f.manner)) (not (is_kept_out f g)) two.1 in
    record {
      lock = eqb-true f.asked.lock.0 g.held.lock.0 one.0;
      barred = two.0;
      unlimited = not-true (is_timed f.manner) three.0;
    }

module _ (leads : ℕ → ℕ → Bool) (R : ℕ → ℕ → Type 0)
    (so : (i j : ℕ) → leads i j ≡ true → R i j) where
  queue-of : (i : ℕ) (is : List ℕ) (j : ℕ) → leads_by leads i is j ≡ true → IsQueue R i is j
  queue-of i [] j is = so i j is
  queue-of i (k ∷ ks) j is =
      let parts = and_parts (leads i k) (leads_by leads k ks j) is in
      (so i k parts.0, queue-of k ks j parts.1)

  circle-of : (circle : List ℕ) → leads_round leads circle ≡ true → IsCircle R circle
  circle-of [] is = absurd (false≢true is)
  circle-of (i ∷ is) round = queue-of i is i round

  all-of : (i : ℕ) (is : List ℕ) → list_all (leads i) is ≡ true → AllByRecursion (R i) is
  all-of i [] all = tt
  all-of i (j ∷ js) all =
      let parts = and_parts (leads i j) (list_all (leads i) js) all in
      (so i j parts.0, all-of i js parts.1)

  each-two : (is : List ℕ) → all_pairs leads is ≡ true → EachTwo R is
  each-two [] all = tt
  each-two (i ∷ is) all =
      let parts = and_parts (list_all (leads i) is) (all_pairs leads is) all in
      (all-of i is parts.0, each-two is parts.1)

-- ---- who can meet

two-threads : (t : ℕ) (a b : Option ThreadNo) → are_two a b ≡ true → is_thread t a ≡ true
    → is_thread t b ≡ true → ⊥
two-threads t None b two one other = false≢true one
two-threads t (Some x) b two one other =
    true≢false (sym (subst (λ k. is_thread k b ≡ true) (sym (eqb-true x.0 t one)) other)
    ∙ not-true (is_thread x.0 b) two)

any-of : (p : Had → Bool) (hads : List Had) (a : Had) → Contains hads a → list_any p hads ≡ false
    → p a ≡ false
any-of p hads a among none =
    false_from_ne_true (p a) (λ is.
    true≢false (sym (list_any_at p hads among.0 a among.1 (ap p among.2 ∙ is)) ∙ none))

no-common : (f g : Fact) → has_gate f g ≡ false → (a b : Had) → Contains (locks_held f) a
    → Contains (locks_held g) b → a.lock.0 ≡ b.lock.0
    → (is_exclusive a.mode ≡ false) × (is_exclusive b.mode ≡ false)
no-common f g none a b mine theirs same =
    let one : list_any (excludes a) (locks_held g) ≡ false =
    any-of (λ x. list_any (excludes x) (locks_held g)) (locks_held f) a mine none in
    let two : excludes a b ≡ false = any-of (excludes a) (locks_held g) b theirs one in
    or_parts (is_exclusive a.mode) (is_exclusive b.mode)
    (ap (λ x. x && (is_exclusive a.mode || is_exclusive b.mode))
    (sym (eq-eqb a.lock.0 b.lock.0 same)) ∙ two)

compatible : (lives : Lives) (f g : Fact) → can_meet all_reasons lives f g ≡ true
    → Compatible lives f g
compatible lives f g is =
    let one =
    and_parts (are_two f.thread g.thread)
    (not (has_gate f g) && not (are_apart lives f g)) is in
    let two = and_parts (not (has_gate f g)) (not (are_apart lives f g)) one.1 in
    record {
      threads = λ t mine theirs. two-threads t f.thread g.thread one.0 mine theirs;
      locks = no-common f g (not-true (has_gate f g) two.0);
      together = not-true (are_apart lives f g) two.1;
    }

pub same-so : (lives : Lives) (facts : List Fact) (circle : List ℕ)
    → closes all_reasons lives facts circle ≡ true
    → IsCircle (OfPlaces facts WaitsFor) circle
    × EachTwo (OfPlaces facts (Compatible lives)) circle
same-so lives facts circle is =
    let all = closed-parts all_reasons lives facts circle is in (
      circle-of (of_both (can_wait all_reasons) facts) (OfPlaces facts WaitsFor)
          (of-places facts (can_wait all_reasons) WaitsFor waits-for) circle all.round,
      each-two (of_both (can_meet all_reasons lives) facts) (OfPlaces facts (Compatible lives))
          (of-places facts (can_meet all_reasons lives) (Compatible lives) (compatible lives)) circle
          all.meet,
    )

-- ---- one order

record Linked (f g : Fact) : Type 0 where
  lock : f.asked.lock.0 ≡ g.held.lock.0

linked : (f g : Fact) → can_wait no_reasons f g ≡ true → Linked f g
linked f g is =
    record {
      lock =
          eqb-true f.asked.lock.0 g.held.lock.0
          (and_parts (eqb f.asked.lock.0 g.held.lock.0) true is).0;
    }

module _ (facts : List Fact) (rank : ℕ → ℕ)
    (forward : (i : ℕ) (f : Fact) → slice_get facts i ≡ Some f
    → rank f.held.lock.0 < rank f.asked.lock.0) where
  ranked : Option Fact → ℕ
  ranked None = 0
  ranked (Some f) = rank f.held.lock.0

  abbrev rises : ℕ → ℕ → Type 0
  rises i j = ranked (slice_get facts i) < ranked (slice_get facts j)

  rises-link : (i j : ℕ) → OfPlaces facts Linked i j → rises i j
  unfolding ranked
  rises-link i j l =
      rw (l.first, l.second)
      (subst (λ n. rank l.one.held.lock.0 < n) (ap rank l.is.lock) (forward i l.one l.first))

  rises-queue : (i : ℕ) (is : List ℕ) (j : ℕ) → IsQueue rises i is j → rises i j
  rises-queue i [] j queue = queue
  rises-queue i (k ∷ ks) j queue =
      let one = queue.0 in let two = rises-queue k ks j queue.1 in omega (arith, one, two)

  rises-none : (circle : List ℕ) → IsCircle rises circle → ⊥
  rises-none [] circle = circle
  rises-none (i ∷ is) circle = let round = rises-queue i is i circle in omega (arith, round)

  pub one-order : (lives : Lives) → NoneCloses no_reasons lives facts
  one-order lives circle is =
      rises-none circle
      (circle-of (of_both (can_wait no_reasons) facts) rises
      (λ i j leads. rises-link i j (of-places facts (can_wait no_reasons) Linked linked i j leads))
      circle (closed-parts no_reasons lives facts circle is).round)
