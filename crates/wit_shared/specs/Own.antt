-- What a seat's own entries and files tell of its next call.
use Rattle.std.specs.Prelude.{ℕ, ◌≡◌, ◌⊎◌, true, List, [], ◌∷◌, ◌++◌, Result, Ok, Err}
use Rattle.std.specs.Prelude.{if◌then◌else◌}
use Rattle.wit_model.specs.declared.faults.Fault.{Fault}
use Rattle.wit_model.specs.declared.locks.FileNo.{FileNo}
use Rattle.wit_model.specs.declared.locks.LockNo.{LockNo}
use Rattle.wit_model.specs.declared.calls.Call.{Call}
use Rattle.wit_model.specs.declared.calls.Entry.{Entry}
use Rattle.wit_model.specs.declared.calls.Reply.{Reply}
use Rattle.wit_model.specs.Rules.History.{pending}
use Rattle.wit_model.specs.Rules.Questions.{is_for}
use Rattle.wit_model.specs.Rules.State.{Start, Story}
use Rattle.wit_model.specs.Rules.Step.{is_logged}
use Rattle.wit_seats.specs.declared.views.SeatKnowledge.{SeatKnowledge}
use Rattle.wit_seats.specs.Seats.{Told}

abbrev pub entry : ℕ → Call → Reply → Entry
entry t call reply = record { seat = record { 0 = t }; call = call; reply = reply }

-- the entry that a call leaves where it is accepted and logged; a refused one, and one that is
-- passed over, leave none
abbrev pub entries_left : ℕ → Call → Result Reply Fault → List Entry
entries_left t call (Ok reply) = if is_logged reply then entry t call reply ∷ [] else []
entries_left t call (Err fault) = []

-- what a logged call leaves of its seat, where the verifier's own call is answered by these rules:
-- what it was told, and among its own entries that of the call alone
pub record Leaves (rules : Story → ℕ → Call → Result Reply Fault → Story → Type 0) (start : Start)
    (call : Call) (result : Result Reply Fault) (v w : SeatKnowledge) : Type 0 where
  pub told : Told start [] (λ s new. rules s v.seat call result new) v w
  pub own : w.own ≡ entries_left v.seat call result ++ v.own
  pub seat : w.seat ≡ v.seat
  pub given : w.given ≡ v.given

-- a seat that asks for this lock, as its own entries show
abbrev pub AsksFor : SeatKnowledge → LockNo → Type 0
AsksFor k lock = is_for lock.0 (pending k.seat k.own) ≡ true

-- the seat was given this file
abbrev pub HasFile : List (FileNo × List ℕ) → FileNo → Type 0
HasFile [] f = ⊥
HasFile (g ∷ given) f = (g.0 ≡ f) ⊎ HasFile given f
