-- Threads that ask only as the facts say.
use Rattle.std.specs.Prelude.{ℕ, ◌<◌, ◌≤◌, ◌≡◌, Bool, true, false, ◌==◌, List, [], ◌∷◌, ◌++◌}
use Rattle.std.specs.Prelude.{Some, slice_get, Contains}
use Rattle.std.specs.List.{AllByRecursion, list_any}
use Rattle.wit_model.specs.declared.calls.Request.{Request}
use Rattle.wit_model.specs.declared.calls.Call.TheVariants.{Check}
use Rattle.wit_model.specs.Rules.History.{is_held}
use Rattle.wit_model.specs.Rules.Verdict.{is_exclusive}
use Rattle.wit_model.specs.World.Deeds.{Deed, Logged, Free, log_of, shares, raw_mode}
use Rattle.wit_alarms.specs.declared.facts.Had.{Had}
use Rattle.wit_alarms.specs.declared.facts.Fact.{Fact}
use Rattle.wit_alarms.specs.declared.facts.Life.{Life}
use Rattle.wit_alarms.specs.declared.facts.Join.{Join}
use Rattle.wit_alarms.specs.declared.facts.Lives.{Lives}
use Rattle.wit_alarms.specs.Courses.{Event, Does, own_events, deeds, has_made}
use Rattle.wit_alarms.specs.Courses.{has_joined, makes_any}
use Rattle.wit_alarms.specs.Facts.{is_timed, is_wait_end}
use Rattle.wit_alarms.specs.Lives.{is_thread}

-- ---- what a fact says of a thread, by the thread's own deeds

-- t has a share of the lock, and has it exclusively where that is said
pub record Has (t : ℕ) (w : List Deed) (had : Had) : Type 0 where
  pub some : 0 < shares t had.lock.0 w
  pub alone : is_exclusive had.mode ≡ true → is_exclusive (raw_mode t had.lock.0 w) ≡ true

abbrev pub frees : ℕ → Deed → Bool
frees l (Free t m) = m == l
frees l _ = false

-- t got lock l while it had lock m, and has kept it since
pub record TookUnder (t l m : ℕ) (w : List Deed) : Type 0 where
  pub since : List Deed
  pub take : Deed
  pub before : List Deed
  pub whole : w ≡ since ++ take ∷ before
  pub none : shares t l before ≡ 0
  pub taken : 0 < shares t l (take ∷ before)
  pub under : 0 < shares t m before
  pub kept : list_any (frees l) since ≡ false

-- the last that t did was to free the lock of this request, which it had in the mode that it now
-- asks for
pub record WaitEnds (t : ℕ) (q : Request) (w : List Deed) : Type 0 where
  pub before : List Deed
  pub freed : w ≡ Free t q.lock.0 ∷ before
  pub mode : is_exclusive (raw_mode t q.lock.0 before) ≡ is_exclusive q.mode

-- ---- when

-- the fact's thread has joined whom it had joined when it did so first, and hasn't made whom it made
-- after it did so last; what was done before any other thread was there, the first thread does
-- before it makes any
pub record IsInTime (lives : Lives) (first t : ℕ) (fact : Fact) (own : List Event) : Type 0 where
  pub joined : (join : Join) → Contains lives.joined.items join → join.by.0 ≡ t
      → join.at < fact.first → has_joined t join.thread.0 own ≡ true
  pub unmade : (life : Life) → Contains lives.made.items life → life.maker.0 ≡ t
      → fact.last ≤ life.made_at → has_made t life.thread.0 own ≡ false
  pub at_first : fact.last ≡ 0 → (t ≡ first) × (list_any makes_any own ≡ false)

-- ---- a request by a fact

-- t, which has done this so far, has a share of lock l and asks for another lock as one of the facts
-- says
pub record IsSaid (facts : List Fact) (lives : Lives) (limited : List Event → Bool)
    (first t : ℕ) (q : Request) (l : ℕ) (request : Event) (own : List Event) : Type 0 where
  pub place : ℕ
  pub fact : Fact
  pub told : slice_get facts place ≡ Some fact
  pub held : fact.held.lock.0 ≡ l
  pub held_mode : is_exclusive fact.held.mode ≡ is_exclusive (raw_mode t l (deeds own))
  pub asked : fact.asked.lock.0 ≡ q.lock.0
  pub asked_mode : is_exclusive fact.asked.mode ≡ is_exclusive q.mode
  pub besides : AllByRecursion (Has t (deeds own)) fact.besides.items
  pub thread : (u : ℕ) → is_thread u fact.thread ≡ true → u ≡ t
  pub under : fact.under ≡ true → TookUnder t l q.lock.0 (deeds own)
  pub timed : is_timed fact.manner ≡ true → limited (request ∷ own) ≡ true
  pub wait_end : is_wait_end fact.manner ≡ true → WaitEnds t q (deeds own)
  pub in_time : IsInTime lives first t fact own

-- at a request of t for one of these locks, which it doesn't hold by the record, each of them that
-- it has a share of is held by some fact
abbrev pub IsSaidAt : (ℕ → Bool) → List Fact → Lives → (List Event → Bool) → ℕ → ℕ → Event
    → List Event → Type 0
IsSaidAt these facts lives limited first t (Does (Logged e)) own =
    (q : Request) (l : ℕ) → e.call ≡ Check q → is_held t q.lock.0 (log_of (deeds own)) ≡ false
    → these q.lock.0 ≡ true → these l ≡ true → 0 < shares t l (deeds own)
    → IsSaid facts lives limited first t q l (Does (Logged e)) own
IsSaidAt these facts lives limited first t _ own = Unit {0}

-- so it is at each of the thread's own events, newest first
abbrev pub IsAllSaid : (ℕ → Bool) → List Fact → Lives → (List Event → Bool) → ℕ → ℕ → List Event
    → Type 0
IsAllSaid these facts lives limited first t [] = Unit {0}
IsAllSaid these facts lives limited first t (e ∷ own) =
    IsSaidAt these facts lives limited first t e own
    × IsAllSaid these facts lives limited first t own

-- the threads of a course ask for these locks only as the facts say
abbrev pub AsksAsSaid : (ℕ → Bool) → List Fact → Lives → (List Event → Bool) → ℕ → List Event
    → Type 0
AsksAsSaid these facts lives limited first c =
    (t : ℕ) → IsAllSaid these facts lives limited first t (own_events t c)
