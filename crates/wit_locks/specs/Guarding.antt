-- What a task under a lock leaves of the seat that has it done.
use Rattle.std.specs.Prelude.{Option, Err}
use Rattle.wit_model.specs.declared.faults.Fault.{Fault}
use Rattle.wit_model.specs.declared.calls.Call.TheVariants.{Unlock}
use Rattle.wit_model.specs.declared.calls.Reply.{Reply}
use Rattle.wit_model.specs.declared.calls.Request.{Request}
use Rattle.wit_model.specs.Rules.State.{Start}
use Rattle.wit_model.specs.Rules.Step.{Answers}
use Rattle.wit_seats.specs.declared.views.SeatKnowledge.{SeatKnowledge}
use Rattle.wit_shared.specs.Own.{Leaves}
use Rattle.wit_locks.specs.Locking.{Acquires, IsMade}

-- a lock was acquired by this request, and released right after it
pub record Visits (start : Start) (q : Request) (v w : SeatKnowledge) : Type 0 where
  pub inside : SeatKnowledge
  pub asked : Option Reply
  pub noted : Reply
  pub acquired : Acquires start q asked noted v inside
  pub released : IsMade Answers start (Unlock q.lock q.mode) inside w

-- it was acquired, and its release was refused with this fault
pub record Stays (start : Start) (q : Request) (fault : Fault) (v w : SeatKnowledge) : Type 0 where
  pub inside : SeatKnowledge
  pub asked : Option Reply
  pub noted : Reply
  pub acquired : Acquires start q asked noted v inside
  pub refused : Leaves Answers start (Unlock q.lock q.mode) (Err fault) inside w
