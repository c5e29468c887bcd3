-- Calls that change how a lock is held.
use Rattle.std.specs.Prelude.{Bool, true, false, Option, Result}
use Rattle.wit_model.specs.declared.faults.Fault.{Fault}
use Rattle.wit_model.specs.declared.locks.Instance.{Instance}
use Rattle.wit_model.specs.declared.locks.LockNo.{LockNo}
use Rattle.wit_model.specs.declared.locks.Mode.{Mode}
use Rattle.wit_model.specs.declared.locks.Mode.TheVariants.{Shared, Exclusive}
use Rattle.wit_model.specs.declared.locks.Watch.{Watch}
use Rattle.wit_model.specs.declared.calls.Call.{Call}
use Rattle.wit_model.specs.declared.calls.Call.TheVariants.{Upgrade, Downgrade, NoRelease}
use Rattle.wit_model.specs.declared.calls.Call.TheVariants.{ReleaseOk}
use Rattle.wit_model.specs.declared.calls.Reply.{Reply}
use Rattle.wit_model.specs.Rules.Turning.{upgraded, downgraded}

-- the call that turns a lock to this mode
abbrev pub turn_call : Mode → LockNo → Call
turn_call Exclusive l = Upgrade l
turn_call Shared l = Downgrade l

-- its answer for a lock held so
abbrev pub turn_answer : Mode → Watch → Option Instance → Result Reply Fault
turn_answer Exclusive watch held = upgraded watch held
turn_answer Shared watch held = downgraded watch held

-- the call that says whether a lock must not be released
abbrev pub mark_call : Bool → LockNo → Call
mark_call true l = NoRelease l
mark_call false l = ReleaseOk l
