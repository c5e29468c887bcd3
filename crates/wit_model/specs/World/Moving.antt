-- Which steps of the locks themselves go with the calls of a log that tells of calls alone.
use Rattle.std.specs.Prelude.{ℕ, Bool, true, not, ◌||◌, nat_lt, List, Option, None, Some}
use Rattle.std.specs.Prelude.{if◌then◌else◌}
use Rattle.wit_model.specs.declared.calls.Call.{Call}
use Rattle.wit_model.specs.declared.calls.Call.TheVariants.{Note, NoteTry, Unlock, Upgrade}
use Rattle.wit_model.specs.declared.calls.Call.TheVariants.{Downgrade}
use Rattle.wit_model.specs.declared.calls.Reply.{Reply}
use Rattle.wit_model.specs.declared.calls.Request.{Request}
use Rattle.wit_model.specs.declared.calls.Entry.{Entry}
use Rattle.wit_model.specs.declared.locks.LockNo.{LockNo}
use Rattle.wit_model.specs.declared.raw_steps.RawStep.{RawStep}
use Rattle.wit_model.specs.declared.raw_steps.RawStep.TheVariants as raw_step
use Rattle.wit_model.specs.Rules.History.{num, is_held, pending}
use Rattle.wit_model.specs.World.Deeds.{Deed, RawDown}
use Rattle.wit_model.specs.World.Stages.{Stage, Over, Asked}
use Rattle.wit_model.specs.World.Scenes.{RawLock, shares_of, is_free, raw_after, deed_of, raw_then}

-- a lock, and what is done to it
abbrev pub LockStep : Type 0
LockStep = LockNo × RawStep

-- before a call of t, after this history: a lock that it is to note is taken, unless it holds it by
-- the record; one that it got by a try is had; one that it upgrades is turned
abbrev pub step_before : List Entry → ℕ → Call → Option LockStep
step_before h t (Note l) = if is_held t l.0 h then None else Some (l, raw_step.Take)
step_before h t (NoteTry l mode site) = Some (l, raw_step.TryTake mode)
step_before h t (Upgrade l) = Some (l, raw_step.Up)
step_before h t _ = None

-- whether an unlock leaves the lock as it is: where t has no share, or more was recorded than it
-- has
abbrev pub is_kept : List Entry → List RawLock → ℕ → ℕ → Bool
is_kept h raw t l = not (nat_lt 0 (shares_of raw t l)) || nat_lt (shares_of raw t l) (num t l h)

-- behind a call: a lock that it unlocks is freed; one that it downgrades is turned, where it has it
-- exclusively
abbrev pub step_behind : List Entry → List RawLock → ℕ → Call → Option LockStep
step_behind h raw t (Unlock l mode) =
    if is_kept h raw t l.0 then None else Some (l, raw_step.Free)
step_behind h raw t (Downgrade l) =
    if is_free raw (RawDown t l.0) then Some (l, raw_step.Down) else None
step_behind h raw t _ = None

-- the stage of a thread that asked for this, or for nothing
abbrev pub stage_asked : Option Request → Stage
stage_asked None = Over
stage_asked (Some q) = Asked q

-- what t does by such a step
abbrev pub deed_beside : List Entry → ℕ → LockStep → Deed
deed_beside h t x = deed_of (stage_asked (pending t h)) t x.0.0 x.1

-- whether the lock itself admits it
abbrev pub is_free_beside : List Entry → List RawLock → ℕ → Option LockStep → Bool
is_free_beside h raw t None = true
is_free_beside h raw t (Some x) = is_free raw (deed_beside h t x)

abbrev pub raw_beside : List Entry → ℕ → Option LockStep → List RawLock → List RawLock
raw_beside h t None raw = raw
raw_beside h t (Some x) raw = raw_after (deed_beside h t x) raw

-- what threads have of the locks after a call of t with this reply, and the steps beside it
abbrev pub raw_moved : List Entry → List RawLock → ℕ → Call → Reply → List RawLock
raw_moved h raw t call r =
    raw_beside h t (step_behind h raw t call)
    (raw_then (raw_beside h t (step_before h t call) raw) call r)
