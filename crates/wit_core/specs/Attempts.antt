-- Calls that are made at once, unless they teach orders.
use Rattle.std.specs.Prelude.{ℕ, ◌≡◌, ◌≢◌, [], Result, Ok, Err}
use Rattle.wit_model.specs.declared.faults.Fault.{Fault}
use Rattle.wit_model.specs.declared.calls.Call.{Call}
use Rattle.wit_model.specs.declared.calls.Reply.{Reply}
use Rattle.wit_model.specs.Rules.Orders.{adopted}
use Rattle.wit_model.specs.Rules.Preparing.{IsPreparable, IsPrepared, Prepares}
use Rattle.wit_model.specs.Rules.State.{Story}
use Rattle.wit_model.specs.Rules.Step.{AnswersOrFails}
use Rattle.wit_core.specs.declared.calls.attempt.Attempt.{Attempt}
use Rattle.wit_core.specs.declared.calls.attempt.Attempt.TheVariants.{Made, Teaches}

-- the answer to a call that isn't refused
abbrev pub told : Attempt → Reply
told (Made reply) = reply
told (Teaches call reply) = reply

-- a call that teaches no orders is made; one that does is prepared and given back; and one that is
-- refused is refused as the call itself
abbrev pub Attempts : Story → ℕ → Call → Result Attempt Fault → Story → Type 0
Attempts old t call (Ok (Made reply)) new =
    (adopted call reply ≡ []) × AnswersOrFails old t call (Ok reply) new
Attempts old t call (Ok (Teaches again reply)) new =
    (adopted call reply ≢ []) × (again ≡ call) × IsPreparable call
    × Prepares old t call (Ok reply) new × IsPrepared new t call
Attempts old t call (Err fault) new = AnswersOrFails old t call (Err fault) new
