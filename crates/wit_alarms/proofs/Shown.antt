-- The courses of two threads keep to plain facts.
use Rattle.std.proofs.Common.{◌≡◌, ℕ, zero, suc, ◌<◌, Bool, true, false, eqb, List, [], ◌∷◌}
use Rattle.std.proofs.Common.{Some, slice_get, refl, ap, sym, ◌∙◌, subst, inl, inr}
use Rattle.std.proofs.Common.{arith, length, cond}
use Rattle.std.specs.List.{AllByRecursion, Contains}
use Rattle.std.proofs.lemmas.Bool.{true≢false, false≢true, eqb-true, ne_eqb}
use Rattle.std.proofs.lemmas.Bool.Decides.{eqb_tells}
use Rattle.wit_model.specs.declared.calls.Request.{Request}
use Rattle.wit_model.specs.declared.calls.Call.{Call}
use Rattle.wit_model.specs.declared.calls.Call.TheVariants.{Check}
use Rattle.wit_model.specs.declared.calls.Entry.{Entry}
use Rattle.wit_model.specs.Rules.History.{num, place, mode, mark, site}
use Rattle.wit_model.specs.Rules.SeatGroups.{seat_groups}
use Rattle.wit_model.specs.World.Waiting.{IsDeadlock}
use Rattle.wit_model.specs.Rules.Verdict.{is_exclusive}
use Rattle.wit_model.specs.World.Deeds.{Deed, Logged, PassedOver, Take, TryTake, Free, RawUp}
use Rattle.wit_model.specs.World.Deeds.{RawDown, own, shares, raw_mode}
use Rattle.wit_model.specs.World.Steps.{IsWorld}
use Rattle.wit_model.specs.World.Examples.{small, files, request, agreed, crossed}
use Rattle.wit_model.proofs.World.Crossed.{one_waits, two_waits}
use Rattle.wit_model.proofs.World.Runs.{is_world}
use Rattle.wit_alarms.specs.declared.facts.Fact.{Fact}
use Rattle.wit_alarms.specs.declared.facts.Lives.{Lives}
use Rattle.wit_alarms.specs.Courses.{Event, Does, Makes, Joins, own_events, deeds, IsCourse}
use Rattle.wit_alarms.specs.Courses.{all_as_known}
use Rattle.wit_alarms.specs.Facts.{closes, all_reasons, NoneCloses, is_timed, is_wait_end}
use Rattle.wit_alarms.specs.Lives.{is_thread}
use Rattle.wit_alarms.specs.Keeping.{Has, IsSaid, IsSaidAt, IsAllSaid, AsksAsSaid}
use Rattle.wit_alarms.specs.NoneMeansNone.{AsksForGood}
use Rattle.wit_alarms.specs.Examples.{IsPlainFact, IsUnknown, with_two, unlimited, all_locks}
use Rattle.wit_alarms.proofs.Fewer.{none_for}
use Rattle.wit_alarms.proofs.So.{one-order}

-- ---- a course of which nothing is known

known-all : (lives : Lives) → IsUnknown lives → (c : List Event) → all_as_known lives c ≡ true
known-all lives none [] = refl
known-all lives none (e ∷ c) = rw (none.made, known-all lives none c) refl

same-deeds : (w : List Deed) → deeds (with_two w) ≡ w
same-deeds [] = refl
same-deeds (d ∷ w) = ap (λ o. d ∷ o) (same-deeds w)

-- ---- what is to be shown of each request

none-contained : {X : Type 0} (xs : List X) (x : X) → xs ≡ [] → Contains xs x → ⊥
none-contained xs x none among =
    let low = among.1 in
    let empty : length xs ≡ 0 = ap length none in
    omega (arith, low, empty)

is_check : Call → Bool
is_check (Check q) = true
is_check c = false

module _ (facts : List Fact) (lives : Lives) (t : ℕ) where
  abbrev Said : Event → Request → ℕ → List Event → Type 0
  Said e q l before = IsSaid facts lives unlimited 1 t q l e before

  abbrev needed : Event → Call → List Event → Type 0 → Type 0
  needed e (Check q) before rest =
      ((l : ℕ) → 0 < shares t l (deeds before) → Said e q l before) × rest
  needed e c before rest = rest

  abbrev NeedsAt : Event → List Event → Type 0 → Type 0
  NeedsAt (Does (Logged e)) before rest = needed (Does (Logged e)) e.call before rest
  NeedsAt e before rest = rest

  abbrev Needs : List Event → Type 0
  Needs [] = Unit {0}
  Needs (e ∷ before) = NeedsAt e before (Needs before)

  abbrev SaidAt : Event → List Event → Type 0
  SaidAt e before = IsSaidAt all_locks facts lives unlimited 1 t e before

  call-said : (e : Entry) (before : List Event) (rest : Type 0) (c : Call) → e.call ≡ c
      → needed (Does (Logged e)) c before rest → SaidAt (Does (Logged e)) before × rest
  unfolding is_check
  call-said e before rest (Check p) is need = (
    (λ q l asks unheld one two some.
        let calls : ◌≡◌ {A = Call} (Check p) (Check q) = sym is ∙ asks in
        let same : p ≡ q = cc in
        subst (λ r. Said (Does (Logged e)) r l before) same (need.0 l some)),
    need.1,
  )
  call-said e before rest c is need = (
    (λ q l asks unheld one two some.
        absurd (false≢true (ap is_check (sym is ∙ asks)))),
    need,
  )

  said-all : (own : List Event) → Needs own → IsAllSaid all_locks facts lives unlimited 1 t own
  said-all [] need = tt
  said-all (Does (Logged e) ∷ own) need =
      let both = call-said e own (Needs own) e.call refl need in (both.0, said-all own both.1)
  said-all (Does (Take u m mode) ∷ own) need = (tt, said-all own need)
  said-all (Does (TryTake u m mode) ∷ own) need = (tt, said-all own need)
  said-all (Does (PassedOver u c) ∷ own) need = (tt, said-all own need)
  said-all (Does (Free u m) ∷ own) need = (tt, said-all own need)
  said-all (Does (RawUp u m) ∷ own) need = (tt, said-all own need)
  said-all (Does (RawDown u m) ∷ own) need = (tt, said-all own need)
  said-all (Makes m u ∷ own) need = (tt, said-all own need)
  said-all (Joins b u ∷ own) need = (tt, said-all own need)

  -- a plain fact says so
  plain : IsUnknown lives → (place : ℕ) (f : Fact) (held asked : ℕ) → IsPlainFact f t held asked
      → slice_get facts place ≡ Some f → (q : Request) (l : ℕ) (e : Event) (before : List Event)
      → q.lock.0 ≡ asked → is_exclusive q.mode ≡ true → held ≡ l
      → is_exclusive (raw_mode t held (deeds before)) ≡ true → Said e q l before
  plain unknown place f held asked is told q l e before asks mode has alone = record {
    place = place;
    fact = f;
    told = told;
    held = is.held ∙ has;
    held_mode =
        is.held_mode
        ∙ sym (subst (λ k. is_exclusive (raw_mode t k (deeds before)) ≡ true) has alone);
    asked = is.asked ∙ sym asks;
    asked_mode = is.asked_mode ∙ sym mode;
    besides = subst (AllByRecursion (Has t (deeds before))) (sym is.besides) tt;
    thread = λ u mine.
        sym (eqb-true t u (sym (ap (is_thread u) is.thread) ∙ mine));
    under = λ yes. absurd (true≢false (sym yes ∙ is.under));
    timed = λ yes. absurd (true≢false (sym yes ∙ ap is_timed is.manner));
    wait_end = λ yes. absurd (true≢false (sym yes ∙ ap is_wait_end is.manner));
    in_time = record {
      joined = λ join among by before_it.
          absurd (none-contained lives.joined.items join unknown.joined among);
      unmade = λ life among maker after.
          absurd (none-contained lives.made.items life unknown.made among);
      at_first = λ none. let some = is.last in absurd (omega (arith, some, none));
    };
  }

-- ---- of the shares of one lock

has-one : (n l : ℕ) → 0 < cond (eqb n l) 1 0 → n ≡ l
has-one n l some =
    elim (eqb_tells n l) [
      | inl same ↦ same.1
      | inr other ↦
          let none : ◌≡◌ {A = ℕ} (cond (eqb n l) 1 0) 0 = rw other.0 refl in absurd (omega (arith, some, none))
    ]

-- ---- in one order

agreed-world : IsWorld small files agreed
unfolding num place mode mark site seat_groups
agreed-world = is_world small files agreed refl refl

crossed-world : IsWorld small files crossed
unfolding num place mode mark site seat_groups
crossed-world = is_world small files crossed refl refl

module _ (f g : Fact) (lives : Lives) (unknown : IsUnknown lives) where
  module _ (one : IsPlainFact f 1 1 2) (two : IsPlainFact g 2 1 2) where
    abbrev agreed_facts : List Fact
    agreed_facts = f ∷ g ∷ []

    agreed-one : Needs agreed_facts lives 1 (own_events 1 (with_two agreed))
    agreed-one = (
      (λ l some.
          plain agreed_facts lives 1 unknown 0 f 1 2 one refl (request 2 2) l _ _ refl refl
          (has-one 1 l some) refl),
      ((λ l some. absurd (omega (arith, some))), tt),
    )

    agreed-two : Needs agreed_facts lives 2 (own_events 2 (with_two agreed))
    agreed-two = (
      (λ l some.
          plain agreed_facts lives 2 unknown 1 g 1 2 two refl (request 2 4) l _ _ refl refl
          (has-one 1 l some) refl),
      ((λ l some. absurd (omega (arith, some))), tt),
    )

    agreed-keeps : AsksAsSaid all_locks agreed_facts lives unlimited 1 (with_two agreed)
    agreed-keeps t =
        elim (eqb_tells 1 t) [
          | inl first ↦ subst (λ k. IsAllSaid all_locks agreed_facts lives unlimited 1 k
              (own_events k (with_two agreed))) first.1
              (said-all agreed_facts lives 1 (own_events 1 (with_two agreed)) agreed-one)
          | inr not_first ↦
              elim (eqb_tells 2 t) [
                | inl second ↦ subst (λ k. IsAllSaid all_locks agreed_facts lives unlimited 1 k
                    (own_events k (with_two agreed))) second.1
                    (said-all agreed_facts lives 2 (own_events 2 (with_two agreed)) agreed-two)
                | inr none ↦
                    let nothing : own_events t (with_two agreed) ≡ [] =
                    rw (not_first.0, none.0) refl in
                    subst (λ o. IsAllSaid all_locks agreed_facts lives unlimited 1 t o)
                    (sym nothing) tt
              ]
        ]

    agreed-forward : (i : ℕ) (x : Fact) → slice_get agreed_facts i ≡ Some x
        → x.held.lock.0 < x.asked.lock.0
    agreed-forward zero x is =
        let same : f ≡ x = cc in
        subst (λ (y : Fact). y.held.lock.0 < y.asked.lock.0) same
        (let held = one.held in let asked = one.asked in omega (arith, held, asked))
    agreed-forward (suc zero) x is =
        let same : g ≡ x = cc in
        subst (λ (y : Fact). y.held.lock.0 < y.asked.lock.0) same
        (let held = two.held in let asked = two.asked in omega (arith, held, asked))
    agreed-forward (suc (suc i)) x is = (cc)

    pub agreed-shown : IsCourse small files 1 lives (with_two agreed)
        × (AsksAsSaid all_locks agreed_facts lives unlimited 1 (with_two agreed)
        × NoneCloses all_reasons lives agreed_facts)
    agreed-shown = (
      record {
        world = subst (IsWorld small files) (sym (same-deeds agreed)) agreed-world;
        come = refl;
        known = known-all lives unknown (with_two agreed);
      },
      (
        agreed-keeps,
        none_for all_reasons lives agreed_facts
            (one-order agreed_facts (λ l. l) agreed-forward lives),
      ),
    )

  -- ---- in opposite orders

  module _ (one : IsPlainFact f 1 1 2) (two : IsPlainFact g 2 2 1) where
    abbrev crossed_facts : List Fact
    crossed_facts = f ∷ g ∷ []

    crossed-one : Needs crossed_facts lives 1 (own_events 1 (with_two crossed))
    crossed-one = (
      (λ l some.
          plain crossed_facts lives 1 unknown 0 f 1 2 one refl (request 2 2) l _ _ refl refl
          (has-one 1 l some) refl),
      ((λ l some. absurd (omega (arith, some))), tt),
    )

    crossed-two : Needs crossed_facts lives 2 (own_events 2 (with_two crossed))
    crossed-two = (
      (λ l some.
          plain crossed_facts lives 2 unknown 1 g 2 1 two refl (request 1 4) l _ _ refl refl
          (has-one 2 l some) refl),
      ((λ l some. absurd (omega (arith, some))), tt),
    )

    crossed-keeps : AsksAsSaid all_locks crossed_facts lives unlimited 1 (with_two crossed)
    crossed-keeps t =
        elim (eqb_tells 1 t) [
          | inl first ↦ subst (λ k. IsAllSaid all_locks crossed_facts lives unlimited 1 k
              (own_events k (with_two crossed))) first.1
              (said-all crossed_facts lives 1 (own_events 1 (with_two crossed)) crossed-one)
          | inr not_first ↦
              elim (eqb_tells 2 t) [
                | inl second ↦ subst (λ k. IsAllSaid all_locks crossed_facts lives unlimited 1 k
                    (own_events k (with_two crossed))) second.1
                    (said-all crossed_facts lives 2 (own_events 2 (with_two crossed)) crossed-two)
                | inr none ↦
                    let nothing : own_events t (with_two crossed) ≡ [] =
                    rw (not_first.0, none.0) refl in
                    subst (λ o. IsAllSaid all_locks crossed_facts lives unlimited 1 t o)
                    (sym nothing) tt
              ]
        ]

    crossed-closes : closes all_reasons lives crossed_facts (0 ∷ 1 ∷ []) ≡ true
    crossed-closes =
        let late_one : eqb f.last 0 ≡ false =
        ne_eqb f.last 0 (λ none. let some = one.last in omega (arith, some, none)) in
        let late_two : eqb g.last 0 ≡ false =
        ne_eqb g.last 0 (λ none. let some = two.last in omega (arith, some, none)) in
        simp (
          one.held,
          one.held_mode,
          one.asked,
          one.asked_mode,
          one.besides,
          one.under,
          one.manner,
          one.thread,
          two.held,
          two.held_mode,
          two.asked,
          two.asked_mode,
          two.besides,
          two.under,
          two.manner,
          two.thread,
          unknown.made,
          unknown.joined,
          late_one,
          late_two,
        ) refl

    for-good : (t : ℕ) → AsksForGood all_locks unlimited (with_two crossed) t
    for-good t = record { one = λ q asks. refl; unlimited = refl }

    pub crossed-shown : IsCourse small files 1 lives (with_two crossed)
        × (AsksAsSaid all_locks crossed_facts lives unlimited 1 (with_two crossed)
        × ((closes all_reasons lives crossed_facts (0 ∷ 1 ∷ []) ≡ true)
        × (AllByRecursion (AsksForGood all_locks unlimited (with_two crossed)) (1 ∷ 2 ∷ [])
        × IsDeadlock (deeds (with_two crossed)) (1 ∷ 2 ∷ []))))
    crossed-shown = (
      record {
        world = subst (IsWorld small files) (sym (same-deeds crossed)) crossed-world;
        come = refl;
        known = known-all lives unknown (with_two crossed);
      },
      (
        crossed-keeps,
        (
          crossed-closes,
          (
            (for-good 1, (for-good 2, tt)),
            subst (λ w. IsDeadlock w (1 ∷ 2 ∷ [])) (sym (same-deeds crossed))
                (one_waits, two_waits),
          ),
        ),
      ),
    )
