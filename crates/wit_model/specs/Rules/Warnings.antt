-- Which held locks a seat is warned of, where it should hold none: witness_warn of witness(4). A
-- warning isn't logged.
use Rattle.std.specs.Prelude.{ℕ, Bool, true, false, not, ◌&&◌, ◌||◌, List, [], ◌∷◌, ◌++◌, length}
use Rattle.std.specs.Prelude.{filter, reverse, Option, None, Some, Result, Ok, Err, if◌then◌else◌}
use Rattle.wit_model.specs.declared.faults.Fault.{Fault}
use Rattle.wit_model.specs.declared.faults.Fault.TheVariants.{UnknownLock}
use Rattle.wit_model.specs.declared.locks.Watch.{Watch}
use Rattle.wit_model.specs.declared.locks.LockNo.{LockNo}
use Rattle.wit_model.specs.declared.locks.Instance.{Instance}
use Rattle.wit_model.specs.declared.flags.WarnFlags.{WarnFlags}
use Rattle.wit_model.specs.Rules.Locks.{has_flag}
use Rattle.wit_model.specs.Rules.History.{is_on}
use Rattle.wit_model.specs.Rules.State.{State, seat_at, is_live}
use Rattle.wit_model.specs.Rules.Questions.{of_seat}
use Rattle.wit_model.specs.Rules.Verdict.{Basis, is_of, type_held, is_sleepable, is_giant, basis_of}

-- whether this is the lock that the call names, if it names one
abbrev pub is_lock_named : Option LockNo → Instance → Bool
is_lock_named None i = false
is_lock_named (Some l) i = is_of l.0 i

-- whether a lock of the sleep kind may be held: it is the named one, or Giant where that is allowed
-- (0x01), or a sleepable one where these are (0x02)
abbrev pub is_allowed : Basis → Option LockNo → WarnFlags → Instance → Bool
is_allowed g named flags i =
    is_lock_named named i || (has_flag flags.0 0x01 && is_giant g (type_held g i))
    || (has_flag flags.0 0x02 && is_sleepable g (type_held g i))

-- of the locks of the spin kind all are counted, but for the named one where nothing else is
abbrev pub counted_spin : Option LockNo → List Instance → List Instance → List Instance
counted_spin named [] (i ∷ []) = if is_lock_named named i then [] else i ∷ []
counted_spin named counted spin = spin

-- the counted locks, where these of the sleep kind aren't allowed: each kind newest first
abbrev pub counted_with : Option LockNo → List Instance → List Instance → List Instance
counted_with named counted spin = reverse counted ++ reverse (counted_spin named counted spin)

-- the held locks that are counted, of a seat that holds these of the sleep kind and of the spin
-- kind, oldest first
abbrev pub counted : (Instance → Bool) → Option LockNo → List Instance → List Instance
    → List Instance
counted allowed named sleep spin = counted_with named (filter (λ i. not (allowed i)) sleep) spin

-- where less than everything is watched none is
abbrev pub warning : Basis → Watch → Option LockNo → WarnFlags → List Instance → List Instance
    → List Instance
warning g watch named flags sleep spin =
    if is_on watch then counted (is_allowed g named flags) named sleep spin else []

-- the locks of which the seat is warned
abbrev pub warned : State → ℕ → Option LockNo → WarnFlags → List Instance
warned s t named flags =
    warning (basis_of s.known) s.watch named flags (seat_at s t).sleep (seat_at s t).spin

-- whether the call names no lock that isn't live
abbrev pub is_nameable : State → Option LockNo → Bool
is_nameable s None = true
is_nameable s (Some l) = is_live s l.0

-- how many they are
abbrev pub step_warn : State → ℕ → Option LockNo → WarnFlags → Result ℕ Fault
step_warn s t named flags =
    of_seat s t (if not (is_nameable s named) then Err UnknownLock
    else Ok (length (warned s t named flags)))
