-- Calls that are prepared: all that they will need is asked for before they are made.
use Rattle.std.specs.Prelude.{ℕ, ◌≡◌, Some, Result, Ok, Err, if◌then◌else◌}
use Rattle.wit_model.specs.declared.faults.Fault.{Fault}
use Rattle.wit_model.specs.declared.calls.Call.{Call}
use Rattle.wit_model.specs.declared.calls.Call.TheVariants.{Check, DefineOrder}
use Rattle.wit_model.specs.declared.calls.Reply.{Reply}
use Rattle.wit_model.specs.Rules.State.{Story}
use Rattle.wit_model.specs.Rules.Step.{AnswersOrFails, answer_of, is_logged}

-- the calls that can be prepared: those that may teach an order
abbrev pub IsPreparable : Call → Type 0
IsPreparable (Check q) = Unit {0}
IsPreparable (DefineOrder a b) = Unit {0}
IsPreparable _ = ⊥

-- the story once a call with this answer is prepared: one that will be passed over needs nothing
abbrev pub prepared : Story → ℕ → Call → Reply → Story
prepared s t call reply = if is_logged reply then record s { ready = Some (t, call) } else s

-- a call is told the answer that it would get, and is prepared; or it is refused as the call itself
-- would be, and nothing changes
abbrev pub Prepares : Story → ℕ → Call → Result Reply Fault → Story → Type 0
Prepares old t call (Ok reply) new =
    (answer_of old t call ≡ Ok reply) × (new ≡ prepared old t call reply)
Prepares old t call (Err fault) new = AnswersOrFails old t call (Err fault) new

-- this call of the seat is prepared
abbrev pub IsPrepared : Story → ℕ → Call → Type 0
IsPrepared s t call = s.ready ≡ Some (t, call)
