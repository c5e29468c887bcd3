-- The numbers by which C is answered, and those that it gives.
use Rattle.std.specs.Prelude.{ℕ, ℤ, pos, neg_ℤ, Bool, true, false, ◌==◌, Option, None, Some}
use Rattle.std.specs.Prelude.{Result, Ok, Err, min, if◌then◌else◌}
use Rattle.std.specs.Ordering.{int_eq}
use Rattle.wit_model.specs.declared.assertions.AssertAnswer.{AssertAnswer}
use Rattle.wit_model.specs.declared.assertions.AssertAnswer.TheVariants.{Holds, Skipped, Invalid}
use Rattle.wit_model.specs.declared.assertions.AssertAnswer.TheVariants.{IsLocked, IsNotLocked}
use Rattle.wit_model.specs.declared.assertions.AssertAnswer.TheVariants.{IsNotExclusive}
use Rattle.wit_model.specs.declared.assertions.AssertAnswer.TheVariants.{IsExclusive, IsNotRecursed}
use Rattle.wit_model.specs.declared.assertions.AssertAnswer.TheVariants.{IsRecursed}
use Rattle.wit_model.specs.declared.calls.Heading.{Heading}
use Rattle.wit_model.specs.declared.calls.Heading.TheVariants.{Order, Sleepable, Giant}
use Rattle.wit_model.specs.declared.calls.Reply.{Reply}
use Rattle.wit_model.specs.declared.calls.Reply.TheVariants.{Made, Done, Pass, Adopted, AdoptedAll}
use Rattle.wit_model.specs.declared.calls.Reply.TheVariants.{Silent, Reversal, Duplicate, Recorded}
use Rattle.wit_model.specs.declared.calls.Reply.TheVariants.{Exhausted, Unrecorded, Unlocked}
use Rattle.wit_model.specs.declared.calls.Reply.TheVariants.{Known, Ignored}
use Rattle.wit_model.specs.declared.faults.Fault.{Fault}
use Rattle.wit_model.specs.declared.faults.Fault.TheVariants.{UnknownSeat, UnknownLock}
use Rattle.wit_model.specs.declared.faults.Fault.TheVariants.{ClassMismatch, TypesFull, LocksFull}
use Rattle.wit_model.specs.declared.faults.Fault.TheVariants.{SleepUnderSpin, SharedOfExclusive}
use Rattle.wit_model.specs.declared.faults.Fault.TheVariants.{ExclusiveOfShared, Recursed}
use Rattle.wit_model.specs.declared.faults.Fault.TheVariants.{RecursionTooDeep, NotLocked}
use Rattle.wit_model.specs.declared.faults.Fault.TheVariants.{SharedUnlock, ExclusiveUnlock}
use Rattle.wit_model.specs.declared.faults.Fault.TheVariants.{ForbiddenUnlock, NotUpgradable}
use Rattle.wit_model.specs.declared.faults.Fault.TheVariants.{UpgradeOfExclusive, UpgradeRecursed}
use Rattle.wit_model.specs.declared.faults.Fault.TheVariants.{DowngradeOfShared, DowngradeRecursed}
use Rattle.wit_model.specs.declared.faults.Fault.TheVariants.{WrongOrder, SameType, KindMismatch}
use Rattle.wit_model.specs.declared.faults.Fault.TheVariants.{Busy, Pending, NotRequested, LogFull}
use Rattle.wit_model.specs.declared.faults.Fault.TheVariants.{OutOfMemory, GateRefused, BadName}
use Rattle.wit_model.specs.declared.faults.Fault.TheVariants.{WatchOff, ModeNotAllowed, FilesFull}
use Rattle.wit_model.specs.declared.faults.Fault.TheVariants.{UnknownFile, RawNotFree, StepOrder}
use Rattle.wit_model.specs.declared.locks.Class.{Class}
use Rattle.wit_model.specs.declared.locks.Class.TheVariants.{SleepMutex, SpinMutex, Rw, Sx}
use Rattle.wit_model.specs.declared.locks.FileNo.{FileNo}
use Rattle.wit_model.specs.declared.locks.Instance.{Instance}
use Rattle.wit_model.specs.declared.locks.LockNo.{LockNo}
use Rattle.wit_model.specs.declared.locks.Mode.{Mode}
use Rattle.wit_model.specs.declared.locks.Mode.TheVariants.{Shared, Exclusive}
use Rattle.wit_model.specs.declared.locks.Origin.{Origin}
use Rattle.wit_model.specs.declared.locks.Origin.TheVariants.{Listed, Defined, At}
use Rattle.wit_model.specs.declared.locks.Site.{Site}
use Rattle.wit_model.specs.declared.locks.Watch.{Watch}
use Rattle.wit_model.specs.declared.locks.Watch.TheVariants.{Off, Quiet, On}
use Rattle.wit_model.specs.declared.profiles.Profile.{Profile}
use Rattle.wit_model.specs.declared.profiles.Profile.TheVariants.{Plain, AllHeld}

-- ---- what C is answered

-- the place has no verifier
abbrev pub empty_place : ℤ
empty_place = neg_ℤ (pos 100)

-- the place has a verifier already
abbrev pub full_place : ℤ
full_place = neg_ℤ (pos 101)

-- an argument stands for nothing
abbrev pub no_such : ℤ
no_such = neg_ℤ (pos 102)

-- a fault's own number, as 6 of F6
abbrev pub number_of : Fault → ℕ
number_of UnknownSeat = 1
number_of UnknownLock = 2
number_of ClassMismatch = 3
number_of TypesFull = 4
number_of LocksFull = 5
number_of SleepUnderSpin = 6
number_of SharedOfExclusive = 7
number_of ExclusiveOfShared = 8
number_of Recursed = 9
number_of RecursionTooDeep = 10
number_of NotLocked = 11
number_of SharedUnlock = 12
number_of ExclusiveUnlock = 13
number_of ForbiddenUnlock = 14
number_of NotUpgradable = 15
number_of UpgradeOfExclusive = 16
number_of UpgradeRecursed = 17
number_of DowngradeOfShared = 18
number_of DowngradeRecursed = 19
number_of WrongOrder = 20
number_of SameType = 21
number_of KindMismatch = 22
number_of Busy = 23
number_of Pending = 24
number_of NotRequested = 25
number_of LogFull = 26
number_of OutOfMemory = 27
number_of GateRefused = 28
number_of BadName = 29
number_of WatchOff = 30
number_of ModeNotAllowed = 31
number_of FilesFull = 32
number_of UnknownFile = 33
number_of RawNotFree = 35
number_of StepOrder = 36

-- a fault, below 0
abbrev pub fault_number : Fault → ℤ
fault_number fault = neg_ℤ (pos (number_of fault))

-- a reply, from 0; a lock that is made, its own number
abbrev pub reply_number : Reply → ℤ
reply_number (Made lock) = pos lock.0
reply_number Pass = pos 0
reply_number Done = pos 1
reply_number (Adopted parent child) = pos 2
reply_number (AdoptedAll orders) = pos 2
reply_number (Silent held asked) = pos 3
reply_number (Reversal conflict) = pos 4
reply_number (Duplicate doubling) = pos 5
reply_number Recorded = pos 6
reply_number Exhausted = pos 7
reply_number Unrecorded = pos 8
reply_number Unlocked = pos 9
reply_number Known = pos 10
reply_number Ignored = pos 11

abbrev pub answer_number : Result Reply Fault → ℤ
answer_number (Ok reply) = reply_number reply
answer_number (Err fault) = fault_number fault

abbrev pub file_number : Result FileNo Fault → ℤ
file_number (Ok file) = pos file.0
file_number (Err fault) = fault_number fault

abbrev pub assert_number : AssertAnswer → ℕ
assert_number Holds = 0
assert_number Skipped = 1
assert_number Invalid = 2
assert_number IsLocked = 3
assert_number IsNotLocked = 4
assert_number IsNotExclusive = 5
assert_number IsExclusive = 6
assert_number IsNotRecursed = 7
assert_number IsRecursed = 8

abbrev pub asserted_number : Result AssertAnswer Fault → ℤ
asserted_number (Ok answer) = pos (assert_number answer)
asserted_number (Err fault) = fault_number fault

-- a count, up to the greatest number that there is
abbrev pub count_number : ℕ → ℤ
count_number n = pos (min n 9223372036854775807)

abbrev pub counted_number : Result ℕ Fault → ℤ
counted_number (Ok n) = count_number n
counted_number (Err fault) = fault_number fault

abbrev pub watch_number : Watch → ℤ
watch_number Off = neg_ℤ (pos 1)
watch_number Quiet = pos 0
watch_number On = pos 1

abbrev pub class_number : Class → ℕ
class_number SleepMutex = 0
class_number SpinMutex = 1
class_number Rw = 2
class_number Sx = 3

abbrev pub mode_number : Mode → ℕ
mode_number Shared = 0
mode_number Exclusive = 1

-- which rule a reversal breaks
abbrev pub heading_number : Heading → ℕ
heading_number Order = 0
heading_number Sleepable = 1
heading_number Giant = 2

-- where an order comes from; 0 where there is none
abbrev pub origin_number : Option Origin → ℕ
origin_number None = 0
origin_number (Some Listed) = 1
origin_number (Some Defined) = 2
origin_number (Some (At site)) = 3

-- by which reply something was reported: 0 where nothing was
abbrev pub report_number : Result Reply Fault → ℤ
report_number (Ok (Reversal conflict)) = pos 4
report_number (Ok (Duplicate doubling)) = pos 5
report_number (Ok Exhausted) = pos 7
report_number _ = pos 0

-- ---- what C gives

abbrev pub mode_in : Bool → Mode
mode_in true = Exclusive
mode_in false = Shared

abbrev pub profile_in : Bool → Profile
profile_in true = AllHeld
profile_in false = Plain

abbrev pub class_in : ℕ → Option Class
class_in n =
    if n == 0 then Some SleepMutex
    else if n == 1 then Some SpinMutex
    else if n == 2 then Some Rw
    else if n == 3 then Some Sx
    else None

abbrev pub watch_in : ℤ → Option Watch
watch_in n =
    if int_eq n (watch_number Off) then Some Off
    else if int_eq n (watch_number Quiet) then Some Quiet
    else if int_eq n (watch_number On) then Some On
    else None

-- 0 is no lock
abbrev pub lock_in : ℕ → Option LockNo
lock_in l = if l == 0 then None else Some (record { 0 = l })

abbrev pub site_in : ℕ → ℕ → Site
site_in file line = record { file = record { 0 = file }; line = line }

-- a number that is there, or 0
abbrev pub optional_number : Option ℕ → ℤ
optional_number None = pos 0
optional_number (Some n) = pos n

-- how a lock is held, as far as an assertion looks: whether it is, how, and how often it was
-- acquired again
abbrev pub holding_in : Bool → Bool → ℕ → Option Instance
holding_in false exclusive count = None
holding_in true exclusive count = Some (record {
  lock = record { 0 = 0 };
  site = site_in 0 0;
  count = count;
  mode = mode_in exclusive;
  norelease = false;
})
