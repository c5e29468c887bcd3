-- The texts of the faults.
use Rattle.std.specs.Prelude.{ℕ, List, codes}
use Rattle.wit_model.specs.declared.faults.Fault.{Fault}
use Rattle.wit_model.specs.declared.faults.Fault.TheVariants.{UnknownSeat, UnknownLock}
use Rattle.wit_model.specs.declared.faults.Fault.TheVariants.{ClassMismatch, TypesFull, LocksFull}
use Rattle.wit_model.specs.declared.faults.Fault.TheVariants.{SleepUnderSpin, SharedOfExclusive}
use Rattle.wit_model.specs.declared.faults.Fault.TheVariants.{ExclusiveOfShared, Recursed}
use Rattle.wit_model.specs.declared.faults.Fault.TheVariants.{RecursionTooDeep, NotLocked}
use Rattle.wit_model.specs.declared.faults.Fault.TheVariants.{SharedUnlock, ExclusiveUnlock}
use Rattle.wit_model.specs.declared.faults.Fault.TheVariants.{ForbiddenUnlock, NotUpgradable}
use Rattle.wit_model.specs.declared.faults.Fault.TheVariants.{UpgradeOfExclusive, UpgradeRecursed}
use Rattle.wit_model.specs.declared.faults.Fault.TheVariants.{DowngradeOfShared, DowngradeRecursed}
use Rattle.wit_model.specs.declared.faults.Fault.TheVariants.{WrongOrder, SameType, KindMismatch}
use Rattle.wit_model.specs.declared.faults.Fault.TheVariants.{Busy, Pending, NotRequested, LogFull}
use Rattle.wit_model.specs.declared.faults.Fault.TheVariants.{OutOfMemory, GateRefused, BadName}
use Rattle.wit_model.specs.declared.faults.Fault.TheVariants.{WatchOff, ModeNotAllowed, FilesFull}
use Rattle.wit_model.specs.declared.faults.Fault.TheVariants.{UnknownFile, RawNotFree, StepOrder}

-- a fault's number and name
abbrev pub fault_text : Fault → List ℕ
fault_text UnknownSeat = codes "F1 UnknownSeat"
fault_text UnknownLock = codes "F2 UnknownLock"
fault_text ClassMismatch = codes "F3 ClassMismatch"
fault_text TypesFull = codes "F4 TypesFull"
fault_text LocksFull = codes "F5 LocksFull"
fault_text SleepUnderSpin = codes "F6 SleepUnderSpin"
fault_text SharedOfExclusive = codes "F7 SharedOfExclusive"
fault_text ExclusiveOfShared = codes "F8 ExclusiveOfShared"
fault_text Recursed = codes "F9 Recursed"
fault_text RecursionTooDeep = codes "F10 RecursionTooDeep"
fault_text NotLocked = codes "F11 NotLocked"
fault_text SharedUnlock = codes "F12 SharedUnlock"
fault_text ExclusiveUnlock = codes "F13 ExclusiveUnlock"
fault_text ForbiddenUnlock = codes "F14 ForbiddenUnlock"
fault_text NotUpgradable = codes "F15 NotUpgradable"
fault_text UpgradeOfExclusive = codes "F16 UpgradeOfExclusive"
fault_text UpgradeRecursed = codes "F17 UpgradeRecursed"
fault_text DowngradeOfShared = codes "F18 DowngradeOfShared"
fault_text DowngradeRecursed = codes "F19 DowngradeRecursed"
fault_text WrongOrder = codes "F20 WrongOrder"
fault_text SameType = codes "F21 SameType"
fault_text KindMismatch = codes "F22 KindMismatch"
fault_text Busy = codes "F23 Busy"
fault_text Pending = codes "F24 Pending"
fault_text NotRequested = codes "F25 NotRequested"
fault_text LogFull = codes "F26 LogFull"
fault_text OutOfMemory = codes "F27 OutOfMemory"
fault_text GateRefused = codes "F28 GateRefused"
fault_text BadName = codes "F29 BadName"
fault_text WatchOff = codes "F30 WatchOff"
fault_text ModeNotAllowed = codes "F31 ModeNotAllowed"
fault_text FilesFull = codes "F32 FilesFull"
fault_text UnknownFile = codes "F33 UnknownFile"
fault_text RawNotFree = codes "F35 RawNotFree"
fault_text StepOrder = codes "F36 StepOrder"
