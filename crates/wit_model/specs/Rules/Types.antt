-- Lock types: the name that mtx_init is passed as type "is used by the witness code to classify a
-- mutex when doing checks of lock ordering" (mutex(9)). A type is a name with a class, and its
-- number is its place among the types enrolled so far, from 1.
use Rattle.std.specs.Prelude.{ℕ, ◌+◌, Bool, true, false, not, ◌&&◌, List, [], ◌∷◌, ◌++◌, unwrap_or}
use Rattle.std.specs.Prelude.{codes, if◌then◌else◌}
use Rattle.std.specs.List.{list_any, position_or_len}
use Rattle.std.specs.Str.{bytes_eq}
use Rattle.wit_model.specs.declared.locks.Class.{Class}
use Rattle.wit_model.specs.declared.locks.Class.TheVariants.{SleepMutex, SpinMutex, Rw, Sx}
use Rattle.wit_model.specs.declared.calls.NewLock.{NewLock}
use Rattle.wit_model.specs.declared.calls.Call.{Call}
use Rattle.wit_model.specs.declared.calls.Call.TheVariants.{Init}
use Rattle.wit_model.specs.declared.calls.Entry.{Entry}
use Rattle.wit_model.specs.Rules.Numbers.{with_number}
pub use Rattle.wit_model.specs.declared.locks.LockType.{LockType}

abbrev pub is_same_class : Class → Class → Bool
is_same_class SleepMutex SleepMutex = true
is_same_class SpinMutex SpinMutex = true
is_same_class Rw Rw = true
is_same_class Sx Sx = true
is_same_class _ _ = false

-- Giant is the mutex of that name (locking(9))
abbrev pub is_giant_type : Class → List ℕ → Bool
is_giant_type class name = is_same_class class SleepMutex && bytes_eq name (codes "Giant")

-- whether the class is of the spin kind; all others are of the sleep kind (locking(9))
abbrev pub is_spin : Class → Bool
is_spin SpinMutex = true
is_spin _ = false

-- whether a lock of the class can be held shared, and so be turned from one mode to the other:
-- mutexes never are (mutex(9))
abbrev pub is_shareable : Class → Bool
is_shareable Rw = true
is_shareable Sx = true
is_shareable _ = false

abbrev pub is_named : List ℕ → LockType → Bool
is_named name t = bytes_eq t.name name

-- whether a type has this name
abbrev pub is_enrolled : List ℕ → List LockType → Bool
is_enrolled name types = list_any (is_named name) types

-- the number of the type with this name; of a new name, the number that it would get
abbrev pub type_number : List ℕ → List LockType → ℕ
type_number name types = position_or_len (is_named name) types + 1

-- whether a type has this name and another class
abbrev pub is_otherwise : List ℕ → Class → List LockType → Bool
is_otherwise name class types =
    list_any (λ t. is_named name t && not (is_same_class t.class class)) types

abbrev no_type : LockType
no_type = record { name = []; class = SleepMutex }

-- the name of the type with this number, empty where there is none
abbrev pub name_of : ℕ → List LockType → List ℕ
name_of number types = (unwrap_or (with_number types number) no_type).name

-- its class
abbrev pub class_of : ℕ → List LockType → Class
class_of number types = (unwrap_or (with_number types number) no_type).class

-- the types once this name is enrolled: a known name stays where it is
abbrev pub enrolled : List ℕ → Class → List LockType → List LockType
enrolled name class types =
    if is_enrolled name types then types else types ++ record { name = name; class = class } ∷ []

-- the name under which a new lock takes part in orders: its type name, or its own where none was
-- given
abbrev pub type_name_of : NewLock → List ℕ
type_name_of lock = unwrap_or lock.type_name lock.name

-- the types once each of these is enrolled, in their order
abbrev pub enrolled_all : List (Class × List ℕ) → List LockType → List LockType
enrolled_all [] types = types
enrolled_all (entry ∷ entries) types = enrolled_all entries (enrolled entry.1 entry.0 types)

-- the types of static lists
abbrev pub listed_types : List (List (Class × List ℕ)) → List LockType → List LockType
listed_types [] types = types
listed_types (list ∷ lists) types = listed_types lists (enrolled_all list types)

abbrev pub types_after : Call → List LockType → List LockType
types_after (Init lock) types = enrolled (type_name_of lock) lock.class types
types_after _ types = types

-- the types after a history (newest entry first) that began with these
abbrev pub types_from : List LockType → List Entry → List LockType
types_from types [] = types
types_from types (e ∷ h) = types_after e.call (types_from types h)
