-- Errands: what a thread does from a moment in which it has no lock until it asks for one.
use Rattle.std.specs.Prelude.{ℕ, ◌≡◌, Bool, true, false, ◌&&◌, ◌||◌, ◌==◌, nat_lt, List}
use Rattle.std.specs.Prelude.{[], ◌∷◌, ◌++◌, map, if◌then◌else◌}
use Rattle.std.specs.List.{list_any}
use Rattle.wit_model.specs.declared.locks.Mode.{Mode}
use Rattle.wit_model.specs.declared.locks.Mode.TheVariants.{Exclusive}
use Rattle.wit_model.specs.declared.calls.Request.{Request}
use Rattle.wit_model.specs.declared.calls.Call.TheVariants.{Check}
use Rattle.wit_model.specs.declared.calls.Entry.{Entry}
use Rattle.wit_model.specs.Rules.History.{is_held}
use Rattle.wit_model.specs.Rules.Verdict.{is_exclusive}
use Rattle.wit_model.specs.World.Deeds.{Deed, Logged, Take, TryTake, RawUp, own, log_of, shares}
use Rattle.wit_model.specs.World.Deeds.{raw_mode}
use Rattle.wit_model.specs.World.Reordering.{kept}
use Rattle.wit_errands.specs.Settled.{are_free}

-- an errand of t in these deeds, after this first part: the deeds of t since it had nothing, up to
-- its request for a lock that it doesn't hold by the record
pub record Errand (t : ℕ) (first deeds : List Deed) : Type 0 where
  -- its own deeds before the errand, in the errand, and after the request
  pub before : List Deed
  pub way : List Deed
  pub entry : Entry
  pub request : Request
  pub after : List Deed
  pub whole : own t deeds ≡ after ++ Logged entry ∷ way ++ before
  pub asks : entry.call ≡ Check request
  pub nothing : (l : ℕ) → shares t l before ≡ 0
  pub unheld : is_held t request.lock.0 (log_of (way ++ before ++ first)) ≡ false

-- whether what t has after these deeds bars another thread from having lock l so
abbrev pub keeps : ℕ → List Deed → ℕ → Mode → Bool
keeps t way l mode =
    nat_lt 0 (shares t l way) && (is_exclusive (raw_mode t l way) || is_exclusive mode)

-- whether it bars a deed of another thread
abbrev pub is_in_way : ℕ → List Deed → Deed → Bool
is_in_way t way (Take u l mode) = keeps t way l mode
is_in_way t way (TryTake u l mode) = keeps t way l mode
is_in_way t way (RawUp u l) = keeps t way l Exclusive
is_in_way t way d = false

-- the thread of the errand a asks for a lock that u has at the request of its errand b, and not both
-- as readers
abbrev pub AsksFor : {t u : ℕ} {first deeds : List Deed} → Errand t first deeds
    → Errand u first deeds → Type 0
AsksFor {u = u} a b = keeps u b.way a.request.lock.0 a.request.mode ≡ true

-- its thread has done in v what it did up to its request, and nothing since
abbrev pub IsAtRequest : {t : ℕ} {first deeds : List Deed} → Errand t first deeds → List Deed
    → Type 0
IsAtRequest {t = t} {first = first} a v =
    map kept (own t v) ≡ map kept (own t (Logged a.entry ∷ a.way ++ a.before ++ first))

-- ---- errands of several threads

-- no thread is there twice
abbrev pub AreDistinct : List ℕ → Type 0
AreDistinct [] = Unit {0}
AreDistinct (t ∷ threads) = (list_any (λ u. u == t) threads ≡ false) × AreDistinct threads

-- a thread with an errand of its own
pub record Asker (first deeds : List Deed) : Type 0 where
  pub thread : ℕ
  pub errand : Errand thread first deeds

module _ {first deeds : List Deed} where
  -- it asks for what another one has
  abbrev pub AsksOther : Asker first deeds → Asker first deeds → Type 0
  AsksOther a b = (b.thread ≡ a.thread → ⊥) × AsksFor a.errand b.errand

  -- from a by these to b, each asks for what the next one has
  abbrev pub AskOn : Asker first deeds → List (Asker first deeds) → Asker first deeds → Type 0
  AskOn a [] b = AsksOther a b
  AskOn a (c ∷ others) b = AsksOther a c × AskOn c others b

  -- each asks for what the next one has, and the last for what the first one has
  abbrev pub IsRound : List (Asker first deeds) → Type 0
  IsRound [] = ⊥
  IsRound (a ∷ others) = AskOn a others a

  abbrev pub threads_of : List (Asker first deeds) → List ℕ
  threads_of askers = map (λ (a : Asker first deeds). a.thread) askers

  -- whether this is one of their threads
  abbrev pub is_asker : List (Asker first deeds) → ℕ → Bool
  is_asker askers t = list_any (λ u. u == t) (threads_of askers)

  -- no thread is there twice
  abbrev pub AreApart : List (Asker first deeds) → Type 0
  AreApart askers = AreDistinct (threads_of askers)

  -- a thread's errand with its request, and nothing of others
  abbrev pub errand_of : List (Asker first deeds) → ℕ → List Deed
  errand_of [] t = []
  errand_of (a ∷ others) t =
      if a.thread == t then Logged a.errand.entry ∷ a.errand.way else errand_of others t

  -- these errands alone can be gone together: there is a sequence of them that the locks admit, where
  -- nobody has anything before
  pub record Meet (threads : ℕ) (askers : List (Asker first deeds)) : Type 0 where
    pub together : List Deed
    pub errands : (t : ℕ) → map kept (own t together) ≡ map kept (errand_of askers t)
    pub free : are_free threads together ≡ true

  -- each of their threads is at its request in v
  abbrev pub AllAtRequest : List (Asker first deeds) → List Deed → Type 0
  AllAtRequest [] v = Unit {0}
  AllAtRequest (a ∷ others) v = IsAtRequest a.errand v × AllAtRequest others v
