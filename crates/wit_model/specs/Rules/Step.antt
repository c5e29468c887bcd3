-- What a verifier answers to a call, and which histories are legal. In each call the faults stand
-- in the order in which they apply; want of memory is never among them.
use Rattle.std.specs.Prelude.{ℕ, ◌+◌, ◌≡◌, ◌⊎◌, Bool, true, false, not, ◌&&◌, ◌==◌, nat_le, List}
use Rattle.std.specs.Prelude.{[], ◌∷◌, Option, None, Some, Result, Ok, Err, length, is_some}
use Rattle.std.specs.Prelude.{if◌then◌else◌}
use Rattle.wit_model.specs.declared.faults.Fault.{Fault}
use Rattle.wit_model.specs.declared.faults.Fault.TheVariants.{ClassMismatch, TypesFull, LocksFull}
use Rattle.wit_model.specs.declared.faults.Fault.TheVariants.{RecursionTooDeep}
use Rattle.wit_model.specs.declared.faults.Fault.TheVariants.{SharedUnlock, ExclusiveUnlock}
use Rattle.wit_model.specs.declared.faults.Fault.TheVariants.{ForbiddenUnlock, Pending}
use Rattle.wit_model.specs.declared.faults.Fault.TheVariants.{BadName, WatchOff, ModeNotAllowed}
use Rattle.wit_model.specs.declared.faults.Fault.TheVariants.{UnknownFile, OutOfMemory}
use Rattle.wit_model.specs.declared.locks.Class.{Class}
use Rattle.wit_model.specs.declared.locks.Mode.{Mode}
use Rattle.wit_model.specs.declared.locks.Watch.{Watch}
use Rattle.wit_model.specs.declared.locks.Site.{Site}
use Rattle.wit_model.specs.declared.locks.Instance.{Instance}
use Rattle.wit_model.specs.declared.calls.NewLock.{NewLock}
use Rattle.wit_model.specs.declared.calls.Request.{Request}
use Rattle.wit_model.specs.declared.calls.Call.{Call}
use Rattle.wit_model.specs.declared.calls.Call.TheVariants.{Init, Check, Note, NoteTry, GiveUp}
use Rattle.wit_model.specs.declared.calls.Call.TheVariants.{Unlock, SetWatch, Destroy, Upgrade}
use Rattle.wit_model.specs.declared.calls.Call.TheVariants.{Downgrade, NoRelease, ReleaseOk}
use Rattle.wit_model.specs.declared.calls.Call.TheVariants.{DefineOrder}
use Rattle.wit_model.specs.declared.calls.Reply.{Reply}
use Rattle.wit_model.specs.declared.calls.Reply.TheVariants.{Made, Done, Recorded, Exhausted}
use Rattle.wit_model.specs.declared.calls.Reply.TheVariants.{Unrecorded, Unlocked, Ignored}
use Rattle.wit_model.specs.declared.calls.Entry.{Entry}
use Rattle.wit_model.specs.declared.sizes.TheConstants.Limits.{DEEPEST}
use Rattle.wit_model.specs.Rules.Names.{is_name}
use Rattle.wit_model.specs.Rules.Numbers.{is_number}
use Rattle.wit_model.specs.Rules.Types.{type_name_of, is_enrolled, is_otherwise, is_shareable}
use Rattle.wit_model.specs.Rules.Locks.{lock_at}
use Rattle.wit_model.specs.Rules.Groups.{opens}
use Rattle.wit_model.specs.Rules.History.{is_on, is_off}
use Rattle.wit_model.specs.Rules.State.{Start, Story, State, state_of, seat_at, free}
use Rattle.wit_model.specs.Rules.Verdict.{is_exclusive, verdict}
pub use Rattle.wit_model.specs.Rules.Questions.{chain_for, groups_for, held_by, is_pending, is_for}
pub use Rattle.wit_model.specs.Rules.Questions.{about_seat, about_lock, before_naming}
pub use Rattle.wit_model.specs.Rules.Questions.{before_answering, with_room}
use Rattle.wit_model.specs.Rules.Questions.{unless_held}
use Rattle.wit_model.specs.Rules.Turning.{step_turn, upgraded, downgraded, step_mark}
use Rattle.wit_model.specs.Rules.Defining.{step_define}
use Rattle.wit_model.specs.Rules.Destroying.{step_destroy}

abbrev pub is_good_name : Option (List ℕ) → Bool
is_good_name None = true
is_good_name (Some name) = is_name name

-- the answer to `init` for a lock of the type with this name, where the seat asks for nothing and
-- the names are good
abbrev pub step_typed : State → List ℕ → Class → Result Reply Fault
step_typed s type_name class =
    if is_otherwise type_name class s.known.types then Err ClassMismatch
    else if not (is_enrolled type_name s.known.types) && nat_le s.sizes.types (length s.known.types)
    then Err TypesFull
    else if nat_le s.sizes.locks (length s.known.locks) then Err LocksFull
    else with_room s 1 (Ok (Made (record { 0 = length s.known.locks + 1 })))

abbrev pub step_init : State → ℕ → NewLock → Result Reply Fault
step_init s t lock =
    about_seat s t (
    if not (is_name lock.name && is_good_name lock.type_name) then Err BadName
    else step_typed s (type_name_of lock) lock.class)

-- whether the recursion count has its greatest value
abbrev pub is_deepest : Option Instance → Bool
is_deepest None = false
is_deepest (Some i) = i.count == DEEPEST

-- whether one more acquisition of the lock would be recorded and is one too many
abbrev pub is_too_deep : State → ℕ → ℕ → Bool
is_too_deep s t l = not (is_off s.watch) && is_deepest (held_by s t l)

-- the faults of a call that asks for a lock, or tries it, before the rest
abbrev pub before_acquiring : State → ℕ → ℕ → Mode → Site → Result Reply Fault → Result Reply Fault
before_acquiring s t l m site rest =
    about_lock s t l (
    if not (is_number s.files site.file.0) then Err UnknownFile
    else if not (is_exclusive m) && not (is_shareable (lock_at s.known.locks l).made.class)
    then Err ModeNotAllowed
    else if is_pending s t then Err Pending
    else if is_too_deep s t l then Err RecursionTooDeep
    else rest)

-- a check needs room for itself, its note and its unlock
abbrev pub step_check : State → ℕ → Request → Result Reply Fault
step_check s t q =
    before_acquiring s t q.lock.0 q.mode q.site
    (with_room s 3 (verdict s.profile s.known s.watch (seat_at s t) q))

-- whether the lock would lie in a new chunk, and none is free
abbrev pub is_exhausted : State → ℕ → ℕ → Bool
is_exhausted s t l = opens (groups_for s t l) && (free s == 0)

-- what is recorded of an acquisition
abbrev pub recorded_reply : State → ℕ → ℕ → Reply
recorded_reply s t l =
    if is_off s.watch then Unrecorded
    else if is_some (held_by s t l) then Recorded
    else if is_exhausted s t l then Exhausted
    else Recorded

-- a try is no request: no order is checked, nor how the lock is held. It needs room for itself and
-- its unlock
abbrev pub step_note_try : State → ℕ → ℕ → Mode → Site → Result Reply Fault
step_note_try s t l m site =
    before_acquiring s t l m site (with_room s 2 (Ok (recorded_reply s t l)))

-- a release in this mode of a lock held so; where less than everything is watched it is judged by
-- nothing
abbrev pub released : Watch → Mode → Option Instance → Result Reply Fault
released watch m None = unless_held watch
released watch m (Some i) =
    if not (is_on watch) then Ok Unlocked
    else if is_exclusive i.mode && not (is_exclusive m) then Err SharedUnlock
    else if not (is_exclusive i.mode) && is_exclusive m then Err ExclusiveUnlock
    else if (i.count == 0) && i.norelease then Err ForbiddenUnlock
    else Ok Unlocked

-- nothing is watched again once nothing was
abbrev pub step_set_watch : State → ℕ → Watch → Result Reply Fault
step_set_watch s t watch =
    about_seat s t (
    if is_off s.watch && not (is_off watch) then Err WatchOff else with_room s 1 (Ok Done))

-- the answer to a call of seat t
abbrev pub step : State → ℕ → Call → Result Reply Fault
step s t (Init lock) = step_init s t lock
step s t (Check q) = step_check s t q
step s t (Note l) = before_answering s t l.0 (Ok (recorded_reply s t l.0))
step s t (NoteTry l m site) = step_note_try s t l.0 m site
step s t (GiveUp l) = before_answering s t l.0 (Ok Done)
step s t (Unlock l m) = before_naming s t l.0 (released s.watch m (held_by s t l.0))
step s t (SetWatch watch) = step_set_watch s t watch
step s t (Destroy l) = step_destroy s t l.0
step s t (Upgrade l) = step_turn s t l.0 (upgraded s.watch (held_by s t l.0))
step s t (Downgrade l) = step_turn s t l.0 (downgraded s.watch (held_by s t l.0))
step s t (NoRelease l) = step_mark s t l.0
step s t (ReleaseOk l) = step_mark s t l.0
step s t (DefineOrder a b) = step_define s t a.0 b.0

abbrev pub answer_of : Story → ℕ → Call → Result Reply Fault
answer_of story t call = step (state_of story) t call

abbrev pub story_after : Start → List (List ℕ) → List Entry → Story
story_after start files h = record { start = start; history = h; files = files; ready = None }

-- a call that is passed over isn't logged
abbrev pub is_logged : Reply → Bool
is_logged Ignored = false
is_logged _ = true

-- each entry's reply is the answer after the entries before it, and one that is logged
abbrev pub IsLegal : Start → List (List ℕ) → List Entry → Type 0
IsLegal start files [] = Unit {0}
IsLegal start files (e ∷ h) =
    (answer_of (story_after start files h) e.seat.0 e.call ≡ Ok e.reply)
    × (is_logged e.reply ≡ true) × IsLegal start files h

-- the story with one more entry, after which no call is prepared any longer
abbrev pub logged : Story → ℕ → Call → Reply → Story
logged s t call reply =
    record s {
      history = record { seat = record { 0 = t }; call = call; reply = reply } ∷ s.history;
      ready = None;
    }

-- the story after an accepted call
abbrev pub grown : Story → ℕ → Call → Reply → Story
grown s t call reply = if is_logged reply then logged s t call reply else s

-- an accepted call gets the step's reply and is logged with it, unless it is passed over; a refused
-- one gets the step's fault and changes nothing
abbrev pub Answers : Story → ℕ → Call → Result Reply Fault → Story → Type 0
Answers old t call (Ok reply) new =
    (answer_of old t call ≡ Ok reply) × (new ≡ grown old t call reply)
Answers old t call (Err fault) new = (answer_of old t call ≡ Err fault) × (new ≡ old)

-- an answer that the log keeps
abbrev pub IsEntered : Result Reply Fault → Type 0
IsEntered (Ok reply) = is_logged reply ≡ true
IsEntered (Err fault) = ⊥

-- the answer to a call that takes memory: a growth may be refused in place of an acceptance that
-- is logged, and then too nothing changes
abbrev pub AnswersOrFails : Story → ℕ → Call → Result Reply Fault → Story → Type 0
AnswersOrFails old t call (Ok reply) new =
    (answer_of old t call ≡ Ok reply) × (new ≡ grown old t call reply)
AnswersOrFails old t call (Err fault) new =
    ((answer_of old t call ≡ Err fault)
    ⊎ ((fault ≡ OutOfMemory) × IsEntered (answer_of old t call))) × (new ≡ old)

-- the calls that take no memory: what they need was set aside before
abbrev pub TakesNoMemory : Call → Type 0
TakesNoMemory (Note l) = Unit {0}
TakesNoMemory (GiveUp l) = Unit {0}
TakesNoMemory (Unlock l mode) = Unit {0}
TakesNoMemory _ = ⊥
