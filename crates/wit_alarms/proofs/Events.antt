-- A thread's own events: its deeds are its deeds in the world, and who waits did nothing since it
-- asked.
use Rattle.std.proofs.Common.{◌≡◌, ℕ, true, false, eqb, List, [], ◌∷◌, refl, ap, sym, ◌∙◌}
use Rattle.std.proofs.Common.{inl, inr}
use Rattle.std.proofs.lemmas.Bool.{cases_Bool, and_parts, eqb-true, false≢true}
use Rattle.wit_model.specs.declared.calls.Request.{Request}
use Rattle.wit_model.specs.declared.calls.Call.TheVariants.{Check}
use Rattle.wit_model.specs.declared.calls.Entry.{Entry}
use Rattle.wit_model.specs.World.Deeds.{Deed, Logged, PassedOver, Take, TryTake, Free, RawUp}
use Rattle.wit_model.specs.World.Deeds.{RawDown, thread_of, own, raw_mode, mode_after}
use Rattle.wit_model.specs.World.Stages.{Stage, Asked, stage, is_over}
use Rattle.wit_model.proofs.World.Own.{own-mine, own-other, asked-deed}
use Rattle.wit_alarms.specs.Courses.{Event, Does, Makes, Joins, actor, own_events, deeds}
use Rattle.wit_alarms.specs.Courses.{is_idle, may_come, all_may_come}

pub events-mine : (t : ℕ) (e : Event) (c : List Event) → eqb (actor e) t ≡ true
    → own_events t (e ∷ c) ≡ e ∷ own_events t c
events-mine t e c is = rw is refl

pub events-other : (t : ℕ) (e : Event) (c : List Event) → eqb (actor e) t ≡ false
    → own_events t (e ∷ c) ≡ own_events t c
events-other t e c is = rw is refl

more-deeds : (t : ℕ) (e : Event) (c : List Event) → eqb (actor e) t ≡ true
    → deeds (own_events t c) ≡ own t (deeds c) → deeds (e ∷ own_events t c) ≡ own t (deeds (e ∷ c))
more-deeds t (Does d) c is same = ap (λ o. d ∷ o) same ∙ sym (own-mine t d (deeds c) is)
more-deeds t (Makes m u) c is same = same
more-deeds t (Joins b u) c is same = same

pub other-deeds : (t : ℕ) (e : Event) (c : List Event) → eqb (actor e) t ≡ false
    → own t (deeds (e ∷ c)) ≡ own t (deeds c)
other-deeds t (Does d) c is = own-other t d (deeds c) is
other-deeds t (Makes m u) c is = refl
other-deeds t (Joins b u) c is = refl

pub own-deeds : (t : ℕ) (c : List Event) → deeds (own_events t c) ≡ own t (deeds c)
own-deeds t [] = refl
own-deeds t (e ∷ c) =
    elim (cases_Bool (eqb (actor e) t)) [
      | inl is ↦ ap (λ o. deeds o) (events-mine t e c is) ∙ more-deeds t e c is (own-deeds t c)
      | inr is ↦ ap (λ o. deeds o) (events-other t e c is)
          ∙ (own-deeds t c ∙ sym (other-deeds t e c is))
    ]

-- ---- the mode of a share

mode-other : (t l : ℕ) (d : Deed) (w : List Deed) → eqb (thread_of d) t ≡ false
    → raw_mode t l (d ∷ w) ≡ raw_mode t l w
mode-other t l (Take u m mode) w is = rw is refl
mode-other t l (TryTake u m mode) w is = rw is refl
mode-other t l (PassedOver u c) w is = refl
mode-other t l (Free u m) w is = refl
mode-other t l (Logged e) w is = refl
mode-other t l (RawUp u m) w is = rw is refl
mode-other t l (RawDown u m) w is = rw is refl

pub mode-own : (t l : ℕ) (w : List Deed) → raw_mode t l (own t w) ≡ raw_mode t l w
mode-own t l [] = refl
mode-own t l (d ∷ w) =
    elim (cases_Bool (eqb (thread_of d) t)) [
      | inl is ↦ ap (λ o. raw_mode t l o) (own-mine t d w is)
          ∙ ap (λ mode. mode_after t l d mode) (mode-own t l w)
      | inr is ↦ ap (λ o. raw_mode t l o) (own-other t d w is)
          ∙ (mode-own t l w ∙ sym (mode-other t l d w is))
    ]

-- ---- the request of a thread that waits

pub record LastAsked (t : ℕ) (q : Request) (c : List Event) : Type 0 where
  pub entry : Entry
  pub before : List Event
  pub whole : own_events t c ≡ Does (Logged entry) ∷ before
  pub call : entry.call ≡ Check q

not-idle : (at : Stage) (q : Request) → at ≡ Asked q → is_over at ≡ true → ⊥
not-idle at q is over = false≢true (sym (ap is_over is) ∙ over)

idle-asked : (t m : ℕ) (q : Request) (c : List Event) → eqb m t ≡ true → is_idle m c ≡ true
    → stage t (own t (deeds c)) ≡ Asked q → ⊥
idle-asked t m q c mine idle asks =
    not-idle (stage t (own t (deeds c))) q asks
    (ap (λ k. is_over (stage k (own k (deeds c)))) (sym (eqb-true m t mine)) ∙ idle)

head-of : (d e : Deed) (v w : List Deed) → ◌≡◌ {A = List Deed} (d ∷ v) (e ∷ w) → d ≡ e
head-of d e v w is = (cc)

mine-asked : (t : ℕ) (q : Request) (first : ℕ) (e : Event) (c : List Event)
    → eqb (actor e) t ≡ true → may_come first e c ≡ true → stage t (own t (deeds (e ∷ c))) ≡ Asked q
    → LastAsked t q (e ∷ c)
mine-asked t q first (Does d) c is may asks =
    let made =
    asked-deed t (d ∷ own t (deeds c)) q
    (ap (λ o. stage t o) (sym (own-mine t d (deeds c) is)) ∙ asks) in
    record {
      entry = made.0;
      before = own_events t c;
      whole =
          events-mine t (Does d) c is
          ∙ ap (λ x. Does x ∷ own_events t c)
          (head-of d (Logged made.0) (own t (deeds c)) made.1 made.2);
      call = made.3;
    }
mine-asked t q first (Makes m u) c is may asks =
    absurd (idle-asked t m q c is (and_parts _ _ (and_parts _ _ may).1).1 asks)
mine-asked t q first (Joins b u) c is may asks =
    absurd (idle-asked t b q c is
    (and_parts (is_idle b c) (is_idle u c) (and_parts _ _ (and_parts _ _ may).1).1).0 asks)

pub last-asked : (t : ℕ) (q : Request) (first : ℕ) (c : List Event) → all_may_come first c ≡ true
    → stage t (own t (deeds c)) ≡ Asked q → LastAsked t q c
last-asked t q first [] all asks = (cc)
last-asked t q first (e ∷ c) all asks =
    let parts = and_parts (may_come first e c) (all_may_come first c) all in
    elim (cases_Bool (eqb (actor e) t)) [
      | inl is ↦ mine-asked t q first e c is parts.0 asks
      | inr is ↦
          let before =
          last-asked t q first c parts.1
          (ap (λ o. stage t o) (sym (other-deeds t e c is)) ∙ asks) in
          record {
            entry = before.entry;
            before = before.before;
            whole = events-other t e c is ∙ before.whole;
            call = before.call;
          }
    ]
