-- What becomes of an acquisition.
use Rattle.std.specs.Prelude.{ℕ, Bool, false, if◌then◌else◌}
use Rattle.wit_model.specs.declared.locks.Instance.{Instance}
use Rattle.wit_model.specs.declared.locks.LockNo.{LockNo}
use Rattle.wit_model.specs.declared.locks.Mode.{Mode}
use Rattle.wit_model.specs.declared.locks.Site.{Site}
use Rattle.wit_model.specs.declared.locks.Watch.{Watch}
use Rattle.wit_model.specs.declared.locks.Watch.TheVariants.{Off}
use Rattle.wit_model.specs.declared.calls.Reply.{Reply}
use Rattle.wit_model.specs.declared.calls.Reply.TheVariants as reply
use Rattle.wit_model.specs.Rules.History.{is_off}
use Rattle.wit_core.specs.declared.acquiring.Acquisition.{Acquisition}
use Rattle.wit_core.specs.declared.acquiring.Acquisition.TheVariants.{Recorded, Exhausted}
use Rattle.wit_core.specs.declared.acquiring.Acquisition.TheVariants.{Unrecorded}
use Rattle.wit_waiting.specs.Seats.{Seating, with_seat, having_acquired, has_no_room}

abbrev pub reply_to : Acquisition → Reply
reply_to Recorded = reply.Recorded
reply_to Exhausted = reply.Exhausted
reply_to Unrecorded = reply.Unrecorded

-- the log owes the release of what is recorded
abbrev pub owed_after : Acquisition → ℕ
owed_after Recorded = 1
owed_after Exhausted = 0
owed_after Unrecorded = 0

-- what becomes of an acquisition by this seat
abbrev pub acquisition : Watch → Seating → ℕ → Bool → ℕ → Acquisition
acquisition watch seating t spin l = if is_off watch then Unrecorded
    else if has_no_room seating t spin l then Exhausted else Recorded

-- how much is watched then, and what the seats hold
abbrev pub watch_then : Acquisition → Watch → Watch
watch_then Exhausted watch = Off
watch_then _ watch = watch

abbrev pub seating_then : Acquisition → ℕ → Bool → Instance → Seating → Seating
seating_then Recorded t spin i seating = with_seat t (having_acquired spin i) seating
seating_then _ t spin i seating = seating

-- a new acquisition of a lock
abbrev pub taken : LockNo → Mode → Site → Instance
taken l m site = record { lock = l; mode = m; norelease = false; count = 0; site = site }
