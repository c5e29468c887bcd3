-- The locks that were made. A lock's number is its place among them, from 1.
use Rattle.std.specs.Prelude.{ℕ, Bool, true, false, not, ◌==◌, List, [], ◌∷◌, ◌++◌, None, unwrap_or}
use Rattle.std.specs.List.{list_any}
use Rattle.std.specs.Int.RustNames.{bit_and}
use Rattle.wit_model.specs.declared.locks.Class.TheVariants.{SleepMutex}
pub use Rattle.wit_model.specs.declared.locks.Lock.{Lock}
use Rattle.wit_model.specs.declared.calls.NewLock.{NewLock}
use Rattle.wit_model.specs.declared.calls.Call.{Call}
use Rattle.wit_model.specs.declared.calls.Call.TheVariants.{Init, Destroy}
use Rattle.wit_model.specs.declared.calls.Entry.{Entry}
use Rattle.wit_model.specs.Rules.Numbers.{with_number}
use Rattle.wit_model.specs.Rules.Types.{LockType, type_number, type_name_of, is_spin}

-- whether a set of flags has this one
abbrev pub has_flag : ℕ → ℕ → Bool
has_flag flags flag = bit_and flags flag == flag

abbrev pub made : Call → List NewLock
made (Init lock) = lock ∷ []
made _ = []

-- what each lock was made as, oldest first
abbrev pub locks_of : List Entry → List NewLock
locks_of [] = []
locks_of (e ∷ h) = locks_of h ++ made e.call

abbrev pub destroyed_by : Call → List ℕ
destroyed_by (Destroy l) = l.0 ∷ []
destroyed_by _ = []

-- the numbers of the locks that were destroyed, newest first; a number is never used again
abbrev pub destroyed_of : List Entry → List ℕ
destroyed_of [] = []
destroyed_of (e ∷ h) = destroyed_by e.call ++ destroyed_of h

-- whether the lock is one of these
abbrev pub is_destroyed : List ℕ → ℕ → Bool
is_destroyed destroyed l = list_any (λ d. d == l) destroyed

-- stands for a lock that was never made
abbrev pub no_lock : NewLock
no_lock = record { class = SleepMutex; flags = record { 0 = 0 }; name = []; type_name = None }

-- what the lock with this number was made as
abbrev pub lock_of : List NewLock → ℕ → NewLock
lock_of locks l = unwrap_or (with_number locks l) no_lock

-- whether the lock is of the spin kind
abbrev pub is_spin_lock : List NewLock → ℕ → Bool
is_spin_lock locks l = is_spin (lock_of locks l).class

-- whether the lock is of this kind: the spin kind is `true`
abbrev pub is_of_kind : Bool → List NewLock → ℕ → Bool
is_of_kind true locks l = is_spin_lock locks l
is_of_kind false locks l = not (is_spin_lock locks l)

-- what a call adds to the locks, where these are the types before it
abbrev pub made_among : List LockType → Call → List Lock
made_among types (Init lock) =
    record { type_no = record { 0 = type_number (type_name_of lock) types }; made = lock } ∷ []
made_among types _ = []

-- stands for a lock that was never made
abbrev pub unknown_lock : Lock
unknown_lock = record { type_no = record { 0 = 0 }; made = no_lock }

-- the lock with this number
abbrev pub lock_at : List Lock → ℕ → Lock
lock_at locks l = unwrap_or (with_number locks l) unknown_lock
