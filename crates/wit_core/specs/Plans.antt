-- Calls that are prepared.
use Rattle.std.specs.Prelude.{ℕ}
use Rattle.wit_model.specs.declared.calls.Call.{Call}
use Rattle.wit_model.specs.declared.calls.Call.TheVariants as call
use Rattle.wit_core.specs.declared.ready.Plan.{Plan}
use Rattle.wit_core.specs.declared.ready.Plan.TheVariants.{Check, Define}
use Rattle.wit_core.specs.declared.ready.Ready.{Ready}

-- the call that is planned
abbrev pub planned_call : Plan → Call
planned_call (Check q) = call.Check q
planned_call (Define a b) = call.DefineOrder a b

-- who will make which call
abbrev pub planned : Ready → ℕ × Call
planned r = (r.seat.0, planned_call r.plan)

-- how many entries of the log a call that can be prepared needs: a check its own, its note's and
-- its unlock's
abbrev pub entries_for : Call → ℕ
entries_for (call.Check q) = 3
entries_for _ = 1
