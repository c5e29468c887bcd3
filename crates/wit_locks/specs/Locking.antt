-- What the calls of a lock leave of the seat that makes them.
use Rattle.std.specs.Prelude.{ℕ, ◌≡◌, ◌⊎◌, ◌≤◌, true, Option, None, Some, Result, Ok, Err}
use Rattle.wit_model.specs.declared.faults.Fault.{Fault}
use Rattle.wit_model.specs.declared.faults.Fault.TheVariants.{GateRefused, RecursionTooDeep}
use Rattle.wit_model.specs.declared.locks.LockNo.{LockNo}
use Rattle.wit_model.specs.declared.locks.Mode.{Mode}
use Rattle.wit_model.specs.declared.locks.Site.{Site}
use Rattle.wit_model.specs.declared.calls.Call.{Call}
use Rattle.wit_model.specs.declared.calls.Call.TheVariants.{Check, Note, GiveUp}
use Rattle.wit_model.specs.declared.calls.Reply.{Reply}
use Rattle.wit_model.specs.declared.calls.Reply.TheVariants.{Done}
use Rattle.wit_model.specs.declared.calls.Request.{Request}
use Rattle.wit_model.specs.declared.sizes.TheConstants.Limits.{DEEPEST}
use Rattle.wit_model.specs.Rules.State.{Start, Story}
use Rattle.wit_model.specs.Rules.Step.{Answers, AnswersOrFails, is_logged}
use Rattle.wit_seats.specs.declared.views.SeatKnowledge.{SeatKnowledge}
use Rattle.wit_shared.specs.Own.{Leaves}

-- a lock that isn't held is asked for: an order may be learnt, and the holder isn't to have it
abbrev pub first_request : LockNo → Mode → Site → Request
first_request lock mode site =
    record { lock = lock; site = site; mode = mode; ops = record { 0 = 5 } }

-- a lock that may be held is asked for once more
abbrev pub next_request : LockNo → Mode → Site → Request
next_request lock mode site =
    record { lock = lock; site = site; mode = mode; ops = record { 0 = 1 } }

-- a call was accepted and logged: of the seat's own entries its entry is the latest, and the others
-- are as before
abbrev pub Enters : (Story → ℕ → Call → Result Reply Fault → Story → Type 0) → Start → Call → Reply
    → SeatKnowledge → SeatKnowledge → Type 0
Enters rules start call reply v w =
    (is_logged reply ≡ true) × Leaves rules start call (Ok reply) v w

-- two calls were, the second right behind the first
pub record EntersBoth (start : Start) (first : Call) (one : Reply) (second : Call) (other : Reply)
    (v w : SeatKnowledge) : Type 0 where
  pub between : SeatKnowledge
  pub earlier : Enters AnswersOrFails start first one v between
  pub later : Enters Answers start second other between w

-- an acquisition: the check, and the note
abbrev pub Acquires : Start → Request → Option Reply → Reply → SeatKnowledge → SeatKnowledge
    → Type 0
Acquires start q None noted v w = ⊥
Acquires start q (Some asked) noted v w = EntersBoth start (Check q) asked (Note q.lock) noted v w

-- none: the check was refused, which left nothing; or the gate was met so that it refuses, and the
-- request was given up
abbrev pub FailsToAcquire : Start → Request → Type 0 → Fault → SeatKnowledge → SeatKnowledge
    → Type 0
FailsToAcquire start q shut fault v w =
    Leaves AnswersOrFails start (Check q) (Err fault) v w
    ⊎ ((fault ≡ GateRefused) × shut × (asked : Reply)
    × EntersBoth start (Check q) asked (GiveUp q.lock) Done v w)

-- no further acquisition: the check was refused, or the lock was acquired as often as it can be
abbrev pub FailsToRecurse : Start → Request → ℕ → Fault → SeatKnowledge → SeatKnowledge → Type 0
FailsToRecurse start q depth fault v w =
    Leaves AnswersOrFails start (Check q) (Err fault) v w
    ⊎ ((fault ≡ RecursionTooDeep) × (DEEPEST ≤ depth) × (w ≡ v))

-- a call was accepted, and may have been passed over
abbrev pub IsMade : (Story → ℕ → Call → Result Reply Fault → Story → Type 0) → Start → Call
    → SeatKnowledge → SeatKnowledge → Type 0
IsMade rules start call v w = (reply : Reply) × Leaves rules start call (Ok reply) v w
