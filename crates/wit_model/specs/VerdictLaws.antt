-- Laws of the verdict of a check: what its replies say of the orders between types.
use Rattle.std.specs.Prelude.{ℕ, ◌<◌, ◌≡◌, ◌⊎◌, Bool, true, false, ◌&&◌, ◌||◌, List, [], ◌∷◌, ◌++◌}
use Rattle.std.specs.Prelude.{Option, None, Some, Ok, codes}
use Rattle.std.specs.List.{last_or}
use Rattle.wit_model.specs.declared.profiles.Profile.TheVariants.{Plain}
use Rattle.wit_model.specs.declared.locks.TypeNo.{TypeNo}
use Rattle.wit_model.specs.declared.locks.Class.TheVariants.{SleepMutex, Sx}
use Rattle.wit_model.specs.declared.locks.Mode.TheVariants.{Exclusive}
use Rattle.wit_model.specs.declared.locks.Watch.TheVariants.{On}
use Rattle.wit_model.specs.declared.calls.NewLock.{NewLock}
use Rattle.wit_model.specs.declared.calls.Heading.TheVariants as heading
use Rattle.wit_model.specs.declared.calls.Conflict.{Conflict}
use Rattle.wit_model.specs.declared.calls.Doubling.{Doubling}
use Rattle.wit_model.specs.declared.calls.Request.{Request}
use Rattle.wit_model.specs.declared.calls.Call.{Call}
use Rattle.wit_model.specs.declared.calls.Call.TheVariants.{Init, Check, Note}
use Rattle.wit_model.specs.declared.calls.Reply.{Reply}
use Rattle.wit_model.specs.declared.calls.Reply.TheVariants.{Made, Pass, Adopted, Reversal}
use Rattle.wit_model.specs.declared.calls.Reply.TheVariants.{Duplicate, Recorded}
use Rattle.wit_model.specs.declared.calls.Entry.{Entry}
use Rattle.wit_model.specs.Rules.Numbers.{IsGiven}
use Rattle.wit_model.specs.Rules.Types.{is_same_class, is_giant_type, type_name_of}
use Rattle.wit_model.specs.Rules.Locks.{Lock, locks_of, lock_of, lock_at, has_flag, is_spin_lock}
use Rattle.wit_model.specs.Rules.Orders.{Before, AreDistinct, is_direct, is_found}
use Rattle.wit_model.specs.Rules.History.{num, is_held, held_of, watch_of}
use Rattle.wit_model.specs.Rules.State.{Start, known_of, seat_of, typed_locks, orders_of}
use Rattle.wit_model.specs.Rules.Start.{start_fault}
use Rattle.wit_model.specs.Rules.Verdict.{verdict}
use Rattle.wit_model.specs.Rules.Step.{IsLegal}
use Rattle.wit_model.specs.Rules.Ahead.{type_of_lock, IsAhead}
use Rattle.wit_model.specs.Rules.Clean.{is_clean}

-- ---- adoptions

-- no order stands twice after a legal history, those of static lists included
abbrev pub OrdersAreAdoptedOnce : Type 0
OrdersAreAdoptedOnce =
    (start : Start) (files : List (List ℕ)) (h : List Entry) → IsLegal start files h
    → AreDistinct (orders_of start h)

-- ---- reports

-- a reversal is told of a lock that the seat holds, and of the one that it asks for
abbrev pub ReversalsAreOfHeldLocks : Type 0
ReversalsAreOfHeldLocks =
    (start : Start) (files : List (List ℕ)) (e : Entry) (h : List Entry) (x : Conflict)
    → IsLegal start files (e ∷ h) → e.reply ≡ Reversal x
    → (is_held e.seat.0 x.held.lock.0 h ≡ true) × (q : Request) × (e.call ≡ Check q)
    × (x.asked.lock ≡ q.lock)

-- a plain reversal is told only where the requested lock's type is before the held one's, by the
-- orders adopted until then
abbrev pub ReversalsBreakOrders : Type 0
ReversalsBreakOrders =
    (start : Start) (files : List (List ℕ)) (e : Entry) (h : List Entry) (x : Conflict)
    → IsLegal start files (e ∷ h) → e.reply ≡ Reversal x → x.heading ≡ heading.Order
    → Before (orders_of start h) (type_of_lock start h x.asked.lock.0)
    (type_of_lock start h x.held.lock.0)

-- the two locks of a duplicate are of one type
abbrev pub DuplicatesAreOfOneType : Type 0
DuplicatesAreOfOneType =
    (start : Start) (files : List (List ℕ)) (e : Entry) (h : List Entry) (d : Doubling)
    → IsLegal start files (e ∷ h) → e.reply ≡ Duplicate d
    → type_of_lock start h d.last.lock.0 ≡ type_of_lock start h d.asked.lock.0

-- the types of the held lock and of the requested one that a report names
abbrev pub reported_pair : List Lock → Reply → List (TypeNo × TypeNo)
reported_pair locks (Reversal x) =
    ((lock_at locks x.held.lock.0).type_no, (lock_at locks x.asked.lock.0).type_no) ∷ []
reported_pair locks (Duplicate d) =
    ((lock_at locks d.last.lock.0).type_no, (lock_at locks d.asked.lock.0).type_no) ∷ []
reported_pair locks _ = []

-- those of all reports of a history, newest first
abbrev pub reported_pairs : Start → List Entry → List (TypeNo × TypeNo)
reported_pairs start [] = []
reported_pairs start (e ∷ h) = reported_pair (typed_locks start h) e.reply ++ reported_pairs start h

-- no unordered pair stands twice
abbrev pub AreUnlike : List (TypeNo × TypeNo) → Type 0
AreUnlike [] = Unit {0}
AreUnlike (p ∷ pairs) = (is_found pairs p.0.0 p.1.0 ≡ false) × AreUnlike pairs

-- no unordered pair of types is reported twice in a legal history
abbrev pub PairsAreReportedOnce : Type 0
PairsAreReportedOnce =
    (start : Start) (files : List (List ℕ)) (h : List Entry) → IsLegal start files h
    → AreUnlike (reported_pairs start h)

-- ---- requests that passed, where the last held lock alone is compared with

-- the last lock that a seat holds of the kind of lock l
abbrev pub last_of_kind : ℕ → ℕ → List Entry → Option ℕ
last_of_kind t l h = last_or None (held_of (is_spin_lock (locks_of h) l) t h)

-- an entry after h asks for a lock of type b, and the last lock of its kind that its seat holds is
-- of type a
pub record AsksBehind (start : Start) (h : List Entry) (e : Entry) (a b : ℕ) : Type 0 where
  pub request : Request
  pub asks : e.call ≡ Check request
  pub last : ℕ
  pub is_last : last_of_kind e.seat.0 request.lock.0 h ≡ Some last
  pub parent : type_of_lock start h last ≡ a
  pub child : type_of_lock start h request.lock.0 ≡ b

abbrev pub is_giant_lock : NewLock → Bool
is_giant_lock lock = is_giant_type lock.class (type_name_of lock)

abbrev pub is_sleepable_lock : NewLock → Bool
is_sleepable_lock lock = is_same_class lock.class Sx

-- Giant and a sleepable lock: Giant is let go while its holder sleeps, so they may be taken in
-- either order
abbrev pub is_with_giant : NewLock → NewLock → Bool
is_with_giant a b =
    (is_giant_lock a && is_sleepable_lock b) || (is_sleepable_lock a && is_giant_lock b)

-- such a request passed, or taught its order, where all rules were to be met: everything was
-- watched, the seat didn't hold the lock, an order might be learnt (0x01), no second lock of one
-- type was allowed (0x02), and it isn't about Giant and a sleepable lock
pub record HasPassed (start : Start) (h : List Entry) (e : Entry) (a b : ℕ) : Type 0 where
  pub behind : AsksBehind start h e a b
  pub passed : (e.reply ≡ Pass) ⊎ (e.reply ≡ Adopted (record { 0 = a }) (record { 0 = b }))
  pub on : watch_of h ≡ On
  pub unheld : is_held e.seat.0 behind.request.lock.0 h ≡ false
  pub teaches : has_flag behind.request.ops.0 0x01 ≡ true
  pub single : a ≡ b → (has_flag (lock_of (locks_of h) behind.request.lock.0).flags.0 0x02
      || has_flag behind.request.ops.0 0x02) ≡ false
  pub bound : is_with_giant (lock_of (locks_of h) behind.last)
      (lock_of (locks_of h) behind.request.lock.0) ≡ false

-- its order is then a direct one
abbrev pub PassedIsDirect : Type 0
PassedIsDirect =
    (start : Start) (files : List (List ℕ)) (e : Entry) (h : List Entry) (a b : ℕ)
    → start.profile ≡ Plain → IsLegal start files (e ∷ h) → HasPassed start h e a b
    → is_direct (orders_of start (e ∷ h)) a b ≡ true

-- a request behind the last held lock by a direct order is judged to pass, unless the seat holds
-- the lock, or a spin lock where that is of the sleep kind
abbrev pub DirectPasses : Type 0
DirectPasses =
    (start : Start) (files : List (List ℕ)) (h : List Entry) (t : ℕ) (q : Request) (last : ℕ)
    → start_fault start ≡ None → IsLegal start files h → IsGiven (locks_of h) q.lock.0
    → last_of_kind t q.lock.0 h ≡ Some last
    → is_direct (orders_of start h) (type_of_lock start h last) (type_of_lock start h q.lock.0)
    ≡ true
    → is_held t q.lock.0 h ≡ false
    → (is_spin_lock (locks_of h) q.lock.0 ≡ false → held_of true t h ≡ [])
    → verdict Plain (known_of start h) (watch_of h) (seat_of h t) q ≡ Ok Pass

-- and whoever asks for a lock of that type behind one of that type later, passes, if no fault
-- refuses the check
abbrev pub PassedPassesOn : Type 0
PassedPassesOn =
    (start : Start) (files : List (List ℕ)) (next : Entry) (later : List Entry) (e : Entry)
    (h : List Entry) (a b : ℕ)
    → start.profile ≡ Plain → start_fault start ≡ None
    → IsLegal start files (next ∷ later ++ e ∷ h)
    → HasPassed start h e a b → AsksBehind start (later ++ e ∷ h) next a b → next.reply ≡ Pass

-- ---- clean histories

-- after a clean history's check of a lock that its seat doesn't hold, each lock that it holds is
-- ahead of that one
abbrev pub HeldComeFirst : Type 0
HeldComeFirst =
    (start : Start) (files : List (List ℕ)) (e : Entry) (h : List Entry) (q : Request) (l : ℕ)
    → start.blessed ≡ [] → IsLegal start files (e ∷ h) → is_clean start.profile (e ∷ h) ≡ true
    → e.call ≡ Check q → num e.seat.0 q.lock.0 h ≡ 0 → 0 < num e.seat.0 l h
    → IsAhead start (e ∷ h) l q.lock.0

-- a lock that is ahead of another stays so
abbrev pub AheadStays : Type 0
AheadStays =
    (start : Start) (e : Entry) (h : List Entry) (a b : ℕ) → IsAhead start h a b
    → IsAhead start (e ∷ h) a b

-- what is ahead of a lock is ahead of all that this one is ahead of
abbrev pub AheadJoins : Type 0
AheadJoins =
    (start : Start) (h : List Entry) (a b c : ℕ) → IsAhead start h a b → IsAhead start h b c
    → IsAhead start h a c

-- no lock is ahead of itself after a legal history of an accepted start
abbrev pub NoneIsAheadOfItself : Type 0
NoneIsAheadOfItself =
    (start : Start) (files : List (List ℕ)) (h : List Entry) (a : ℕ)
    → start_fault start ≡ None → IsLegal start files h → IsAhead start h a a → ⊥

-- ---- a history of which the last law says something

abbrev one_seat : Start
one_seat =
    record {
      sizes = record { seats = 1; types = 2; locks = 2; chunks = 1; log = 8 };
      profile = Plain;
      lists = [];
      blessed = [];
    }

abbrev mutex : List ℕ → Call
mutex name =
    Init (record { class = SleepMutex; flags = record { 0 = 0 }; name = name; type_name = None })

abbrev request_for : ℕ → Request
request_for l =
    record {
      lock = record { 0 = l };
      site = record { file = record { 0 = 1 }; line = 1 };
      mode = Exclusive;
      ops = record { 0 = 0x01 };
    }

abbrev by_one : Call → Reply → Entry
by_one call reply = record { seat = record { 0 = 1 }; call = call; reply = reply }

-- the only seat makes two mutexes, takes the first, and asks for the second; newest first
abbrev two_in_order : List Entry
two_in_order =
    by_one (Check (request_for 2)) (Adopted (record { 0 = 1 }) (record { 0 = 2 }))
    ∷ by_one (Note (record { 0 = 1 })) Recorded
    ∷ by_one (Check (request_for 1)) Pass
    ∷ by_one (mutex (codes "b")) (Made (record { 0 = 2 }))
    ∷ by_one (mutex (codes "a")) (Made (record { 0 = 1 }))
    ∷ []

-- that is a clean history
abbrev pub TwoMutexesAreClean : Type 0
TwoMutexesAreClean =
    (start_fault one_seat ≡ None)
    × (IsLegal one_seat (codes "main.c" ∷ []) two_in_order × (is_clean Plain two_in_order ≡ true))
