-- A thread that waits stands in a fact: it has the locks that the fact says, and asks as it says.
use Rattle.std.proofs.Common.{◌≡◌, ℕ, ◌+◌, ◌-◌, ◌<◌, Bool, true, false, cond, eqb, nat_lt}
use Rattle.std.proofs.Common.{List, [], ◌∷◌, count_by, Some, refl, ap, ap₂, sym, ◌∙◌, subst}
use Rattle.std.proofs.Common.{inl, inr, arith, slice_get}
use Rattle.std.specs.List.{AllByRecursion}
use Rattle.std.proofs.lemmas.Bool.{cases_Bool}
use Rattle.std.proofs.lemmas.List.Sums.{sum_by-cons}
use Rattle.wit_model.specs.declared.calls.Request.{Request}
use Rattle.wit_model.specs.declared.calls.Call.TheVariants.{Check}
use Rattle.wit_model.specs.declared.calls.Entry.{Entry}
use Rattle.wit_model.specs.Rules.History.{Nothing, act, act_by, is_record, is_release, records}
use Rattle.wit_model.specs.Rules.History.{releases, num, is_held}
use Rattle.wit_model.specs.Rules.State.{Start}
use Rattle.wit_model.specs.Rules.Verdict.{is_exclusive}
use Rattle.wit_model.specs.World.Deeds.{Logged, own, log_of, shares, raw_mode}
use Rattle.wit_model.specs.World.Stages.{Asked, stage}
use Rattle.wit_model.proofs.World.Own.{shares-own, num-own}
use Rattle.wit_alarms.specs.declared.facts.Had.{Had}
use Rattle.wit_alarms.specs.declared.facts.Fact.{Fact}
use Rattle.wit_alarms.specs.declared.facts.Lives.{Lives}
use Rattle.wit_alarms.specs.Courses.{Event, Does, own_events, deeds, all_may_come}
use Rattle.wit_alarms.specs.Keeping.{Has, IsSaid, IsAllSaid, AsksAsSaid}
use Rattle.wit_alarms.proofs.Events.{own-deeds, mode-own, last-asked}

-- ---- the record after a request

count-none : (p : Entry → Bool) (e : Entry) (h : List Entry) → p e ≡ false
    → count_by p (e ∷ h) ≡ count_by p h
count-none p e h none =
    let more = sum_by-cons (λ (x : Entry). cond (p x) 1 0) e h
    ∙ ap (λ b. cond b 1 0 + count_by p h) none in
    omega (arith, more)

num-idle : (t l : ℕ) (e : Entry) (h : List Entry) → act_by t e ≡ Nothing
    → num t l (e ∷ h) ≡ num t l h
unfolding num
num-idle t l e h none =
    ap₂ (λ a b. a - b)
    (count-none (records t l) e h (ap (λ a. is_record l a) none))
    (count-none (releases t l) e h (ap (λ a. is_release l a) none))

check-idle : (t : ℕ) (e : Entry) (q : Request) → e.call ≡ Check q → act_by t e ≡ Nothing
check-idle t e q call =
    elim (cases_Bool (eqb e.seat.0 t)) [
      | inl is ↦ rw is (ap (λ c. act c e.reply) call)
      | inr is ↦ rw is refl
    ]

-- ---- standing

module _ (start : Start) (first : ℕ) (lives : Lives) (facts : List Fact)
    (these : ℕ → Bool) (limited : List Event → Bool) (c : List Event) where
  -- the thread waits as the fact of this place says
  pub record Stand (t place : ℕ) : Type 0 where
    pub request : Request
    pub asks : stage t (own t (deeds c)) ≡ Asked request
    pub entry : Entry
    pub before : List Event
    pub whole : own_events t c ≡ Does (Logged entry) ∷ before
    pub lock : ℕ
    pub some : 0 < shares t lock (deeds c)
    pub said : IsSaid facts lives limited first t request lock (Does (Logged entry)) before
    pub is : said.place ≡ place

  -- ---- what it did before it asked is what it has now

  pub own-asked : (t : ℕ) (e : Entry) (before : List Event)
      → own_events t c ≡ Does (Logged e) ∷ before → own t (deeds c) ≡ Logged e ∷ deeds before
  own-asked t e before whole = sym (own-deeds t c) ∙ ap (λ o. deeds o) whole

  pub shares-asked : (t l : ℕ) (e : Entry) (before : List Event)
      → own_events t c ≡ Does (Logged e) ∷ before → shares t l (deeds before) ≡ shares t l (deeds c)
  shares-asked t l e before whole =
      ap (λ o. shares t l o) (sym (own-asked t e before whole)) ∙ shares-own t l (deeds c)

  pub mode-asked : (t l : ℕ) (e : Entry) (before : List Event)
      → own_events t c ≡ Does (Logged e) ∷ before
      → raw_mode t l (deeds before) ≡ raw_mode t l (deeds c)
  mode-asked t l e before whole =
      ap (λ o. raw_mode t l o) (sym (own-asked t e before whole)) ∙ mode-own t l (deeds c)

  held-asked : (t l : ℕ) (e : Entry) (q : Request) (before : List Event)
      → own_events t c ≡ Does (Logged e) ∷ before → e.call ≡ Check q
      → is_held t l (log_of (deeds before)) ≡ is_held t l (log_of (deeds c))
  held-asked t l e q before whole call =
      ap (λ n. nat_lt 0 n)
      (sym (num-idle t l e (log_of (deeds before)) (check-idle t e q call))
      ∙ (ap (λ o. num t l (log_of o)) (sym (own-asked t e before whole)) ∙ num-own t l (deeds c)))

  pub has-now : (t : ℕ) (e : Entry) (before : List Event) (had : Had)
      → own_events t c ≡ Does (Logged e) ∷ before → Has t (deeds before) had
      → Has t (deeds c) had
  has-now t e before had whole has = record {
    some = subst (λ n. 0 < n) (shares-asked t had.lock.0 e before whole) has.some;
    alone = λ exclusive.
        ap is_exclusive (sym (mode-asked t had.lock.0 e before whole)) ∙ has.alone exclusive;
  }

  pub have-now : (t : ℕ) (e : Entry) (before : List Event) (had : List Had)
      → own_events t c ≡ Does (Logged e) ∷ before → AllByRecursion (Has t (deeds before)) had
      → AllByRecursion (Has t (deeds c)) had
  have-now t e before [] whole has = has
  have-now t e before (x ∷ xs) whole has =
      (has-now t e before x whole has.0, have-now t e before xs whole has.1)

  -- ---- a waiting thread stands in a fact

  pub stands : all_may_come first c ≡ true → AsksAsSaid these facts lives limited first c
      → (t l : ℕ) (q : Request) → stage t (own t (deeds c)) ≡ Asked q
      → is_held t q.lock.0 (log_of (deeds c)) ≡ false → these q.lock.0 ≡ true → these l ≡ true
      → 0 < shares t l (deeds c)
      → (place : ℕ) × (s : Stand t place) × (s.lock ≡ l)
  stands come keeps t l q asks unheld wanted had some =
      let last = last-asked t q first c come asks in
      let kept : IsAllSaid these facts lives limited first t
      (Does (Logged last.entry) ∷ last.before) =
      subst (λ o. IsAllSaid these facts lives limited first t o) last.whole (keeps t) in
      let said =
      kept.0 q l last.call
      (held-asked t q.lock.0 last.entry q last.before last.whole last.call ∙ unheld) wanted had
      (subst (λ n. 0 < n) (sym (shares-asked t l last.entry last.before last.whole)) some) in (
        said.place,
        record {
          request = q;
          asks = asks;
          entry = last.entry;
          before = last.before;
          whole = last.whole;
          lock = l;
          some = some;
          said = said;
          is = refl;
        },
        refl,
      )

  -- ---- what it has now

  module _ (t place : ℕ) (s : Stand t place) where
    pub here : slice_get facts place ≡ Some s.said.fact
    here = ap (λ i. slice_get facts i) (sym s.is) ∙ s.said.told

    pub has-held : Has t (deeds c) s.said.fact.held
    has-held = record {
      some = subst (λ l. 0 < shares t l (deeds c)) (sym s.said.held) s.some;
      alone = λ exclusive.
          subst (λ l. is_exclusive (raw_mode t l (deeds c)) ≡ true) (sym s.said.held)
          (ap is_exclusive (sym (mode-asked t s.lock s.entry s.before s.whole))
          ∙ (sym s.said.held_mode ∙ exclusive));
    }

    pub has-besides : AllByRecursion (Has t (deeds c)) s.said.fact.besides.items
    has-besides = have-now t s.entry s.before s.said.fact.besides.items s.whole s.said.besides

    pub same-request : (q : Request) → stage t (own t (deeds c)) ≡ Asked q → s.request ≡ q
    same-request q asks =
        let both : Asked s.request ≡ Asked q = sym s.asks ∙ asks in
        let same : s.request ≡ q = cc in same
