-- What threads do: calls that the verifier logs or passes over, and steps of the locks themselves,
-- of which it isn't told. A thread is a seat. Lists of deeds are newest first, as histories are.
use Rattle.std.specs.Prelude.{ℕ, ◌+◌, ◌-◌, Bool, ◌&&◌, ◌==◌, List, [], ◌∷◌, ◌++◌, filter}
use Rattle.std.specs.Prelude.{if◌then◌else◌}
use Rattle.wit_model.specs.declared.locks.Mode.{Mode}
use Rattle.wit_model.specs.declared.locks.Mode.TheVariants.{Shared, Exclusive}
use Rattle.wit_model.specs.declared.calls.Call.{Call}
use Rattle.wit_model.specs.declared.calls.Entry.{Entry}

-- one atomic step of a thread
pub data Deed : Type 0 where
  -- its call is accepted, and logged
  Logged : (entry : Entry) → Deed
  -- its call is passed over, and not logged
  PassedOver : (thread : ℕ) (call : Call) → Deed
  -- it gets a share of a lock that it asked for
  Take : (thread lock : ℕ) (mode : Mode) → Deed
  -- it gets a share of a lock by a try
  TryTake : (thread lock : ℕ) (mode : Mode) → Deed
  -- it gives a share back
  Free : (thread lock : ℕ) → Deed
  -- its share becomes exclusive
  RawUp : (thread lock : ℕ) → Deed
  -- its share becomes shared
  RawDown : (thread lock : ℕ) → Deed

abbrev pub thread_of : Deed → ℕ
thread_of (Logged e) = e.seat.0
thread_of (PassedOver t call) = t
thread_of (Take t l mode) = t
thread_of (TryTake t l mode) = t
thread_of (Free t l) = t
thread_of (RawUp t l) = t
thread_of (RawDown t l) = t

-- the deeds of one thread
abbrev pub own : ℕ → List Deed → List Deed
own t w = filter (λ d. thread_of d == t) w

abbrev pub logged_by : Deed → List Entry
logged_by (Logged e) = e ∷ []
logged_by _ = []

-- the verifier's log: the history of the calls alone
abbrev pub log_of : List Deed → List Entry
log_of [] = []
log_of (d ∷ w) = logged_by d ++ log_of w

-- whether thread u is t, and lock m is l
abbrev pub are_these : ℕ → ℕ → ℕ → ℕ → Bool
are_these t l u m = (u == t) && (m == l)

abbrev pub shares_after : ℕ → ℕ → Deed → ℕ → ℕ
shares_after t l (Take u m mode) n = if are_these t l u m then n + 1 else n
shares_after t l (TryTake u m mode) n = if are_these t l u m then n + 1 else n
shares_after t l (Free u m) n = if are_these t l u m then n - 1 else n
shares_after t l _ n = n

-- the shares that t has of lock l itself, whatever is recorded
abbrev pub shares : ℕ → ℕ → List Deed → ℕ
shares t l [] = 0
shares t l (d ∷ w) = shares_after t l d (shares t l w)

abbrev pub mode_after : ℕ → ℕ → Deed → Mode → Mode
mode_after t l (Take u m mode) old = if are_these t l u m then mode else old
mode_after t l (TryTake u m mode) old = if are_these t l u m then mode else old
mode_after t l (RawUp u m) old = if are_these t l u m then Exclusive else old
mode_after t l (RawDown u m) old = if are_these t l u m then Shared else old
mode_after t l _ old = old

-- the mode in which t has its shares of l: that of its latest one, as turned since
abbrev pub raw_mode : ℕ → ℕ → List Deed → Mode
raw_mode t l [] = Exclusive
raw_mode t l (d ∷ w) = mode_after t l d (raw_mode t l w)
