-- Errands that can be gone together hang: each thread does what it did before its errand, one after
-- the other; then they go their ways together, and each asks.
use Rattle.std.proofs.Common.{◌≡◌, ℕ, true, false, cond, eqb, List, []}
use Rattle.std.proofs.Common.{◌∷◌, ◌++◌, map, refl, ap, ap₂, sym, ◌∙◌, subst, inl, inr}
use Rattle.std.proofs.Common.{append-nil}
use Rattle.std.proofs.lemmas.Bool.{cases_Bool, and_parts, and_from, or_parts, or_left, or_right}
use Rattle.std.proofs.lemmas.Bool.{eq-eqb, eqb-true, eqb-false, true≢false}
use Rattle.wit_model.specs.Rules.Beginnings.{IsBeginning}
use Rattle.wit_model.specs.Rules.State.{Start}
use Rattle.wit_model.specs.Rules.Circles.{IsQueue}
use Rattle.wit_model.specs.World.Deeds.{Deed, Logged, own, shares}
use Rattle.wit_model.specs.World.Waiting.{IsWaiting, IsDeadlock}
use Rattle.wit_model.specs.World.Reordering.{kept, IsReordering}
use Rattle.wit_model.proofs.World.Own.{shares-own}
use Rattle.wit_errands.specs.Settled.{IsSettled, is_free, are_free}
use Rattle.wit_errands.specs.Errands.{Asker, AsksOther, AskOn, IsRound, is_asker, AreApart}
use Rattle.wit_errands.specs.Errands.{errand_of, threads_of, is_in_way, Meet}
use Rattle.wit_errands.proofs.Looks.{alike-whole, shares-over}
use Rattle.std.proofs.lemmas.List.{map-append}
use Rattle.wit_errands.proofs.Replayed.{locks-decide}
use Rattle.wit_errands.proofs.Having.{has-over, free-same}
use Rattle.wit_errands.proofs.Threads.{Mine, own-all, own-none, looks-own}
use Rattle.wit_errands.proofs.Looks.{own-append}
use Rattle.wit_errands.proofs.Bars.{none-in_way, all-none}
use Rattle.wit_errands.proofs.Segments.{IsPart, part-free}
use Rattle.wit_errands.proofs.Waiting.{upto, mine-upto, mine-parts, begins-as, IsDone, waits}

module _ (start : Start) (files : List (List ℕ)) (first deeds : List Deed)
    (settled : IsSettled start files first deeds) where
  abbrev Askers : Type 0
  Askers = List (Asker first deeds)

  befores : Askers → List Deed
  befores [] = []
  befores (a ∷ askers) = a.errand.before ++ befores askers

  -- all that a thread does up to its request, and nothing of others
  upto_of : Askers → ℕ → List Deed
  upto_of [] t = []
  upto_of (a ∷ askers) t =
      cond (eqb a.thread t) (upto a.thread first deeds a.errand) (upto_of askers t)

  mine-past : (a : Asker first deeds) → Mine a.thread a.errand.before
  mine-past a = (mine-parts a.thread first deeds a.errand).1

  -- ---- a thread that isn't there

  module _ (t : ℕ) where
    no-befores : (askers : Askers) → is_asker askers t ≡ false → own t (befores askers) ≡ []
    unfolding befores
    no-befores [] none = refl
    no-befores (a ∷ askers) none =
        let parts = or_parts (eqb a.thread t) (is_asker askers t) none in
        own-append t a.errand.before (befores askers)
        ∙ ap₂ (λ x y. x ++ y)
        (own-none t a.thread a.errand.before (mine-past a) (eqb-false a.thread t parts.0))
        (no-befores askers parts.1)

    -- ---- and one that may be

    all-own : (askers : Askers) → AreApart askers
        → errand_of askers t ++ own t (befores askers) ≡ upto_of askers t
    unfolding befores upto_of
    all-own [] apart = refl
    all-own (a ∷ askers) apart =
        elim (cases_Bool (eqb a.thread t)) [
          | inl is ↦
              let thread = eqb-true a.thread t is in
              let none = subst (λ k. is_asker askers k ≡ false) thread apart.0 in
              ap (λ y. errand_of (a ∷ askers) t ++ y)
              (own-append t a.errand.before (befores askers)
              ∙ (ap₂ (λ x y. x ++ y)
              (own-all t a.errand.before
              (subst (λ k. Mine k a.errand.before) thread (mine-past a)))
              (no-befores askers none) ∙ append-nil a.errand.before))
              ∙ rw is refl
          | inr is ↦
              ap (λ y. errand_of (a ∷ askers) t ++ y)
              (own-append t a.errand.before (befores askers)
              ∙ ap (λ o. o ++ own t (befores askers))
              (own-none t a.thread a.errand.before (mine-past a) (eqb-false a.thread t is)))
              ∙ (rw is refl ∙ (all-own askers apart.1 ∙ rw is refl))
        ]

    here : (a : Asker first deeds) (askers : Askers) → eqb a.thread t ≡ true
        → upto a.thread first deeds a.errand ≡ upto_of (a ∷ askers) t
    unfolding upto_of
    here a askers is = rw is refl

    there : (a : Asker first deeds) (askers : Askers) → eqb a.thread t ≡ false
        → upto_of askers t ≡ upto_of (a ∷ askers) t
    unfolding upto_of
    there a askers is = rw is refl

    begins-upto : (askers : Askers)
        → IsBeginning (map kept (upto_of askers t)) (map kept (own t deeds))
    unfolding upto_of
    begins-upto [] = (map kept (own t deeds), sym (append-nil (map kept (own t deeds))))
    begins-upto (a ∷ askers) =
        elim (cases_Bool (eqb a.thread t)) [
          | inl is ↦ subst (λ o. IsBeginning (map kept o) (map kept (own t deeds)))
              (here a askers is)
              (subst (λ k. IsBeginning (map kept (upto a.thread first deeds a.errand))
              (map kept (own k deeds))) (eqb-true a.thread t is)
              (begins-as a.thread first deeds a.errand))
          | inr is ↦ subst (λ o. IsBeginning (map kept o) (map kept (own t deeds)))
              (there a askers is) (begins-upto askers)
        ]

  -- ---- the locks admit it

  before-nothing : (a : Asker first deeds) (t l : ℕ) → shares t l a.errand.before ≡ 0
  before-nothing a t l =
      elim (cases_Bool (eqb a.thread t)) [
        | inl is ↦ subst (λ k. shares k l a.errand.before ≡ 0) (eqb-true a.thread t is)
            (a.errand.nothing l)
        | inr is ↦ sym (shares-own t l a.errand.before)
            ∙ ap (λ o. shares t l o)
            (own-none t a.thread a.errand.before (mine-past a) (eqb-false a.thread t is))
      ]

  befores-nothing : (askers : Askers) (t l : ℕ) → shares t l (befores askers) ≡ 0
  unfolding befores
  befores-nothing [] t l = refl
  befores-nothing (a ∷ askers) t l =
      shares-over t l a.errand.before (befores askers) (befores-nothing askers t l)
      ∙ before-nothing a t l

  before-part : (a : Asker first deeds) (askers : Askers) → is_asker askers a.thread ≡ false
      → IsPart start files first deeds settled a.thread (befores askers) a.errand.before
  before-part a askers none = record {
    later = a.errand.after ++ (Logged a.errand.entry ∷ a.errand.way);
    whole =
        a.errand.whole
        ∙ ap (λ o. (a.errand.after ++ (Logged a.errand.entry ∷ a.errand.way)) ++ o)
        (sym (append-nil a.errand.before)
        ∙ ap (λ o. a.errand.before ++ o) (sym (no-befores a.thread askers none)));
    mine = mine-past a;
    free =
        λ i other. all-none (is_in_way i (befores askers))
        (none-in_way i (befores askers) (befores-nothing askers i)) a.errand.before;
  }

  befores-free : (askers : Askers) → AreApart askers
      → are_free start.sizes.seats (befores askers) ≡ true
  unfolding befores
  befores-free [] apart = refl
  befores-free (a ∷ askers) apart =
      part-free start files first deeds settled a.thread (befores askers) a.errand.before
      (before-part a askers apart.0) (befores-free askers apart.1)

  free-over : (m z : List Deed) → ((t l : ℕ) → shares t l z ≡ 0)
      → are_free start.sizes.seats z ≡ true → are_free start.sizes.seats m ≡ true
      → are_free start.sizes.seats (m ++ z) ≡ true
  free-over [] z none past free = past
  free-over (d ∷ m) z none past free =
      let parts =
      and_parts (is_free start.sizes.seats d m) (are_free start.sizes.seats m) free in
      and_from (is_free start.sizes.seats d (m ++ z)) (are_free start.sizes.seats (m ++ z))
      (free-same start.sizes.seats (m ++ z) m (λ t. has-over t m z (none t)) d ∙ parts.0)
      (free-over m z none past parts.1)

  -- ---- and the deadlock

  module _ (askers : Askers) (apart : AreApart askers) (meet : Meet start.sizes.seats askers) where
    abbrev others : List Deed
    others = meet.together ++ befores askers

    own-others : (t : ℕ) → map kept (own t others) ≡ map kept (upto_of askers t)
    own-others t =
        let z = own t (befores askers) in
        ap (λ o. map kept o) (own-append t meet.together (befores askers))
        ∙ (map-append kept (own t meet.together) z
        ∙ (ap (λ o. o ++ map kept z) (meet.errands t)
        ∙ (sym (map-append kept (errand_of askers t) z)
        ∙ ap (λ o. map kept o) (all-own t askers apart))))

    begins : (t : ℕ) → IsBeginning (map kept (own t others)) (map kept (own t deeds))
    begins t =
        subst (λ o. IsBeginning o (map kept (own t deeds))) (sym (own-others t))
        (begins-upto t askers)

    others-free : are_free start.sizes.seats others ≡ true
    others-free =
        free-over meet.together (befores askers) (befores-nothing askers)
        (befores-free askers apart) meet.free

    module _ (v : List Deed) (looks : map kept v ≡ map kept others) where
      -- each of these has done all up to its request
      AllDone : Askers → Type 0
      AllDone [] = Unit {0}
      AllDone (a ∷ some) = IsDone a.thread first deeds a.errand (v ++ first) × AllDone some

      one-done : (a : Asker first deeds)
          → map kept (own a.thread others) ≡ map kept (upto a.thread first deeds a.errand)
          → IsDone a.thread first deeds a.errand (v ++ first)
      one-done a same =
          alike-whole a.thread v (upto a.thread first deeds a.errand) first
          (looks-own a.thread v others looks
          ∙ (same ∙ ap (λ o. map kept o)
          (sym (own-all a.thread (upto a.thread first deeds a.errand)
          (mine-upto a.thread first deeds a.errand)))))

      all-done : (some : Askers) → AreApart some
          → ((t : ℕ) → is_asker some t ≡ true
          → map kept (own t others) ≡ map kept (upto_of some t)) → AllDone some
      unfolding AllDone upto_of
      all-done [] apart' same = tt
      all-done (a ∷ some) apart' same = (
        one-done a (same a.thread (or_left (eqb a.thread a.thread) (is_asker some a.thread)
            (eq-eqb a.thread a.thread refl)) ∙ rw (eq-eqb a.thread a.thread refl) refl),
        all-done some apart'.1 (λ t is. elim (cases_Bool (eqb a.thread t)) [
          | inl here ↦ absurd (true≢false (sym is
              ∙ subst (λ k. is_asker some k ≡ false) (eqb-true a.thread t here) apart'.0))
          | inr not_here ↦ same t (or_right (eqb a.thread t) (is_asker some t) is)
              ∙ rw not_here refl
        ]),
      )

      one-waits : (a b : Asker first deeds) → IsDone a.thread first deeds a.errand (v ++ first)
          → IsDone b.thread first deeds b.errand (v ++ first) → AsksOther a b
          → IsWaiting (v ++ first) a.thread b.thread
      one-waits a b mine theirs asks =
          waits a.thread b.thread first deeds a.errand b.errand (v ++ first) mine theirs
          settled.nothing asks.0 asks.1

      queue : (a : Asker first deeds) (some : Askers) (b : Asker first deeds)
          → IsDone a.thread first deeds a.errand (v ++ first) → AllDone some
          → IsDone b.thread first deeds b.errand (v ++ first) → AskOn a some b
          → IsQueue (IsWaiting (v ++ first)) a.thread (threads_of some) b.thread
      unfolding AllDone
      queue a [] b mine done theirs asks = one-waits a b mine theirs asks
      queue a (c ∷ some) b mine done theirs asks = (
        one-waits a c mine done.0 asks.0,
        queue c some b done.0 done.1 theirs asks.1,
      )

      circle : (some : Askers) → AllDone some → IsRound some
          → IsDeadlock (v ++ first) (threads_of some)
      unfolding AllDone
      circle [] done round = round
      circle (a ∷ some) done round = queue a some a done.0 done.1 done.0 round

    pub meeting-hangs : IsRound askers
        → (v : List Deed) × IsReordering start (v ++ first) (deeds ++ first)
        × IsDeadlock (v ++ first) (threads_of askers)
    meeting-hangs round =
        let again = locks-decide start files first deeds settled others begins others-free in (
          again.0,
          again.2,
          circle again.0 again.1 askers
              (all-done again.0 again.1 askers apart (λ t is. own-others t)) round,
        )
