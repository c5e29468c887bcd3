-- Classes are compared by `==`.
use Rattle.std.proofs.Common.{◌≡◌, refl}
use denote.Enum.Bare.{sameb}
use Rattle.wit_model.specs.declared.locks.Class.{Class}
use Rattle.wit_model.specs.declared.locks.Class.TheVariants.{SleepMutex, SpinMutex, Rw, Sx}
use Rattle.wit_model.specs.contracts.locks.Class.{the_type}
use Rattle.wit_model.specs.Rules.Types.{is_same_class}

pub same-class : (a b : Class) → sameb the_type a b ≡ is_same_class a b
same-class SleepMutex SleepMutex = refl
same-class SleepMutex SpinMutex = refl
same-class SleepMutex Rw = refl
same-class SleepMutex Sx = refl
same-class SpinMutex SleepMutex = refl
same-class SpinMutex SpinMutex = refl
same-class SpinMutex Rw = refl
same-class SpinMutex Sx = refl
same-class Rw SleepMutex = refl
same-class Rw SpinMutex = refl
same-class Rw Rw = refl
same-class Rw Sx = refl
same-class Sx SleepMutex = refl
same-class Sx SpinMutex = refl
same-class Sx Rw = refl
same-class Sx Sx = refl
