-- A lock that is destroyed: its number, name and type stay for texts, and so do the orders of its
-- type; no call may name it any more.
use Rattle.std.specs.Prelude.{ℕ, Bool, ◌||◌, Result, Ok, Err, if◌then◌else◌}
use Rattle.std.specs.List.{list_any}
use Rattle.wit_model.specs.declared.faults.Fault.{Fault}
use Rattle.wit_model.specs.declared.faults.Fault.TheVariants.{Busy}
use Rattle.wit_model.specs.declared.calls.Reply.{Reply}
use Rattle.wit_model.specs.declared.calls.Reply.TheVariants.{Done}
use Rattle.wit_model.specs.Rules.State.{State, Seat}
use Rattle.wit_model.specs.Rules.Verdict.{is_of}
use Rattle.wit_model.specs.Rules.Questions.{is_for, before_naming, with_room}

-- whether a seat holds the lock, or asks for it
abbrev pub uses : ℕ → Seat → Bool
uses l s = list_any (is_of l) s.sleep || list_any (is_of l) s.spin || is_for l s.pending

-- whether some seat does, the caller's own included
abbrev pub is_used : State → ℕ → Bool
is_used s l = list_any (uses l) s.seats

abbrev pub step_destroy : State → ℕ → ℕ → Result Reply Fault
step_destroy s t l =
    before_naming s t l (
    if is_used s l then Err Busy else with_room s 1 (Ok Done))
