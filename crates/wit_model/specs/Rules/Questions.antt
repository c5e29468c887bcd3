-- What an answer asks of the state: the lock, the seat's hold of it, its request, and room in the
-- log.
use Rattle.std.specs.Prelude.{ℕ, Bool, false, not, ◌==◌, List, Option, None, Some, Result, Ok, Err}
use Rattle.std.specs.Prelude.{find, is_some, if◌then◌else◌}
use Rattle.wit_model.specs.declared.faults.Fault.{Fault}
use Rattle.wit_model.specs.declared.faults.Fault.TheVariants.{UnknownSeat, UnknownLock, Pending}
use Rattle.wit_model.specs.declared.faults.Fault.TheVariants.{NotRequested, NotLocked, LogFull}
use Rattle.wit_model.specs.declared.locks.Class.{Class}
use Rattle.wit_model.specs.declared.locks.Watch.{Watch}
use Rattle.wit_model.specs.declared.locks.Instance.{Instance}
use Rattle.wit_model.specs.declared.calls.Request.{Request}
use Rattle.wit_model.specs.declared.calls.Reply.{Reply}
use Rattle.wit_model.specs.declared.calls.Reply.TheVariants.{Ignored}
use Rattle.wit_model.specs.Rules.Types.{is_spin}
use Rattle.wit_model.specs.Rules.Locks.{lock_at}
use Rattle.wit_model.specs.Rules.History.{is_on}
use Rattle.wit_model.specs.Rules.State.{State, seat_at, is_seat, is_live, groups_in, has_room}
use Rattle.wit_model.specs.Rules.Verdict.{is_of, chain_of_kind}

-- the class of a lock
abbrev pub class_at : State → ℕ → Class
class_at s l = (lock_at s.known.locks l).made.class

-- the chain of the lock's kind
abbrev pub chain_for : State → ℕ → ℕ → List Instance
chain_for s t l = chain_of_kind s.known (seat_at s t) l

-- the groups in which it lies
abbrev pub groups_for : State → ℕ → ℕ → List (List ℕ)
groups_for s t l = groups_in (is_spin (lock_at s.known.locks l).made.class) (seat_at s t)

-- the lock as the seat holds it
abbrev pub held_by : State → ℕ → ℕ → Option Instance
held_by s t l = find (is_of l) (chain_for s t l)

abbrev pub is_pending : State → ℕ → Bool
is_pending s t = is_some (seat_at s t).pending

-- whether the request is for this lock
abbrev pub is_for : ℕ → Option Request → Bool
is_for l None = false
is_for l (Some q) = q.lock.0 == l

-- a call of a seat: it is known, else the call is refused before the rest
abbrev pub of_seat : {X : Type 0} → State → ℕ → Result X Fault → Result X Fault
of_seat s t rest = if not (is_seat s t) then Err UnknownSeat else rest

-- and asks for nothing
abbrev pub about_seat : State → ℕ → Result Reply Fault → Result Reply Fault
about_seat s t rest = of_seat s t (if is_pending s t then Err Pending else rest)

-- a call about a lock: the seat and the lock are known
abbrev pub about_lock : {X : Type 0} → State → ℕ → ℕ → Result X Fault → Result X Fault
about_lock s t l rest = of_seat s t (if not (is_live s l) then Err UnknownLock else rest)

-- and by a seat that asks for nothing
abbrev pub before_naming : State → ℕ → ℕ → Result Reply Fault → Result Reply Fault
before_naming s t l rest = about_lock s t l (if is_pending s t then Err Pending else rest)

-- and that answers the seat's request for the lock
abbrev pub before_answering : State → ℕ → ℕ → Result Reply Fault → Result Reply Fault
before_answering s t l rest =
    about_lock s t l (if not (is_for l (seat_at s t).pending) then Err NotRequested else rest)

-- an answer that isn't a fault needs room for this many entries: the call's own and those that must
-- be able to follow it
abbrev pub with_room : State → ℕ → Result Reply Fault → Result Reply Fault
with_room s n (Err fault) = Err fault
with_room s n (Ok reply) = if has_room s n then Ok reply else Err LogFull

-- a call that may be passed over needs room for its entry where it isn't
abbrev pub with_entry : State → Result Reply Fault → Result Reply Fault
with_entry s (Ok Ignored) = Ok Ignored
with_entry s answer = with_room s 1 answer

-- a lock that isn't held is a fault where everything is watched, and passed over where less is
abbrev pub unless_held : Watch → Result Reply Fault
unless_held watch = if is_on watch then Err NotLocked else Ok Ignored
