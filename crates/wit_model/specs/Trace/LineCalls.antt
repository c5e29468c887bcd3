-- What a line has a verifier do: the call that it makes, if it makes one.
use Rattle.std.specs.Prelude.{ℕ, List, Option}
use Rattle.wit_model.specs.declared.lines.Line.{Line}
use Rattle.wit_model.specs.declared.lines.Line.TheVariants.{Init, OnLock, Assert, Warn, Define}
use Rattle.wit_model.specs.declared.lines.Line.TheVariants.{Watch}
use Rattle.wit_model.specs.declared.lines.LockLine.{LockLine}
use Rattle.wit_model.specs.declared.lines.LockLine.TheVariants.{Check, Try, Unlock, Plain, Step}
use Rattle.wit_model.specs.declared.lines.Verb.{Verb}
use Rattle.wit_model.specs.declared.lines.Verb.TheVariants.{Note, GiveUp, Destroy, Upgrade}
use Rattle.wit_model.specs.declared.lines.Verb.TheVariants.{Downgrade, NoRelease, ReleaseOk}
use Rattle.wit_model.specs.declared.flags.LockAssert.{LockAssert}
use Rattle.wit_model.specs.declared.flags.OpFlags.{OpFlags}
use Rattle.wit_model.specs.declared.flags.WarnFlags.{WarnFlags}
use Rattle.wit_model.specs.declared.raw_steps.RawStep.{RawStep}
use Rattle.wit_model.specs.declared.locks.LockNo.{LockNo}
use Rattle.wit_model.specs.declared.locks.Mode.{Mode}
use Rattle.wit_model.specs.declared.locks.Site.{Site}
use Rattle.wit_model.specs.declared.calls.Call.{Call}
use Rattle.wit_model.specs.declared.calls.Call.TheVariants as call

-- what a line has a verifier do: a call of a seat, perhaps with the number of a file; an assertion
-- or a warning, which aren't logged; nothing where a seat does something to a lock itself; or
-- nothing
pub data LineCall : Type 0 where
  Logs : ℕ → Call → LineCall
  LogsAt : ℕ → List ℕ → (ℕ → Call) → LineCall
  Asserts : ℕ → LockNo → LockAssert → LineCall
  Warns : ℕ → Option LockNo → WarnFlags → LineCall
  Steps : ℕ → LockNo → RawStep → LineCall
  NoCall : LineCall

-- the call of a verb
abbrev pub verb_call : Verb → LockNo → Call
verb_call Note = call.Note
verb_call GiveUp = call.GiveUp
verb_call Destroy = call.Destroy
verb_call Upgrade = call.Upgrade
verb_call Downgrade = call.Downgrade
verb_call NoRelease = call.NoRelease
verb_call ReleaseOk = call.ReleaseOk

-- a line of the file with this number
abbrev pub site_in : ℕ → ℕ → Site
site_in file line = record { file = record { 0 = file }; line = line }

-- a request, and an acquisition without waiting, there
abbrev pub check_in : LockNo → Mode → OpFlags → ℕ → ℕ → Call
check_in lock mode ops line file =
    call.Check (record { lock = lock; site = site_in file line; mode = mode; ops = ops })

abbrev pub try_in : LockNo → Mode → ℕ → ℕ → Call
try_in lock mode line file = call.NoteTry lock mode (site_in file line)

abbrev pub lock_call : LockLine (List ℕ) → LineCall
lock_call (Check seat lock mode ops file line) = LogsAt seat.0 file (check_in lock mode ops line)
lock_call (Try seat lock mode file line) = LogsAt seat.0 file (try_in lock mode line)
lock_call (Unlock seat lock mode) = Logs seat.0 (call.Unlock lock mode)
lock_call (Plain verb seat lock) = Logs seat.0 (verb_call verb lock)
lock_call (Step seat lock step) = Steps seat.0 lock step

-- the call that a line makes
abbrev pub call_of : Line → LineCall
call_of (Init seat lock) = Logs seat.0 (call.Init lock)
call_of (OnLock line) = lock_call line
call_of (Assert seat lock asserted) = Asserts seat.0 lock asserted
call_of (Warn seat lock flags) = Warns seat.0 lock flags
call_of (Define seat first second) = Logs seat.0 (call.DefineOrder first second)
call_of (Watch seat watch) = Logs seat.0 (call.SetWatch watch)
call_of _ = NoCall
