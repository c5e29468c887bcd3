-- What a table of names knows, as its callers see it, and its answers. Types and files have their
-- places as numbers, from 1.
use Rattle.std.specs.Prelude.{ℕ, ◌≡◌, ◌⊎◌, Bool, true, false, not, ◌&&◌, List, [], ◌∷◌, ◌++◌}
use Rattle.std.specs.Prelude.{length, map, nat_le, slice_get, unwrap_or, Some, Result, Ok, Err}
use Rattle.std.specs.Prelude.{if◌then◌else◌}
use Rattle.std.specs.List.{list_any}
use Rattle.std.specs.Option.{option_map}
use Rattle.wit_model.specs.declared.faults.Fault.{Fault}
use Rattle.wit_model.specs.declared.faults.Fault.TheVariants.{BadName, ClassMismatch, TypesFull}
use Rattle.wit_model.specs.declared.faults.Fault.TheVariants.{OutOfMemory}
use Rattle.wit_model.specs.declared.locks.Class.{Class}
use Rattle.wit_model.specs.Rules.Names.{is_name, is_file_name}
use Rattle.wit_model.specs.Rules.Numbers.{IsGiven, with_number, with_changed}
use Rattle.wit_model.specs.declared.locks.LockType.{LockType}
use Rattle.wit_model.specs.Rules.Types.{is_enrolled, is_otherwise, type_number, enrolled}
use Rattle.wit_model.specs.Rules.Verdict.{is_named_pair}
use Rattle.wit_model.specs.Rules.Files.{is_known_file, file_number, files_after}

-- the types, for each of them how many live locks it has, the source files, the pairs of names that
-- were blessed, and how many types and files there may be
pub record Names : Type 0 where
  pub types : List LockType
  pub live : List ℕ
  pub files : List (List ℕ)
  pub blessed : List (List ℕ × List ℕ)
  pub most_types : ℕ
  pub most_files : ℕ

abbrev pub no_names : ℕ → ℕ → Names
no_names types files =
    record {
      types = [];
      live = [];
      files = [];
      blessed = [];
      most_types = types;
      most_files = files;
    }

abbrev pub type_names : List LockType → List (List ℕ)
type_names types = map (λ (t : LockType). t.name) types

-- the name of the type at this place
abbrev pub HasNameAt : List LockType → ℕ → List ℕ → Type 0
HasNameAt types i name = (t : LockType) × (slice_get types i ≡ Some t) × (name ≡ t.name)

-- the class of the type at this place
abbrev pub HasClassAt : List LockType → ℕ → Class → Type 0
HasClassAt types i class = (t : LockType) × (slice_get types i ≡ Some t) × (class ≡ t.class)

-- the name of the type with this number
abbrev pub HasName : List LockType → ℕ → List ℕ → Type 0
HasName types n name = option_map (λ (t : LockType). t.name) (with_number types n) ≡ Some name

-- the class of the type with this number
abbrev pub HasClass : List LockType → ℕ → Class → Type 0
HasClass types n class = option_map (λ (t : LockType). t.class) (with_number types n) ≡ Some class

-- the answer to an enrolment, want of memory aside: a known name of the same class gives its number
-- also where no number is left
abbrev pub enroll_answer : List ℕ → Class → ℕ → List LockType → Result ℕ Fault
enroll_answer name class most types =
    if not (is_name name) then Err BadName
    else if is_otherwise name class types then Err ClassMismatch
    else if not (is_enrolled name types) && nat_le most (length types) then Err TypesFull
    else Ok (type_number name types)

-- the counts of live locks once this name is enrolled: a new type has none
abbrev pub live_after : List ℕ → List LockType → List ℕ → List ℕ
live_after name types live = if is_enrolled name types then live else live ++ 0 ∷ []

abbrev pub with_type : Names → List ℕ → Class → Names
with_type n name class =
    record n { types = enrolled name class n.types; live = live_after name n.types n.live }

-- a known file with this name has this number
abbrev pub HasFile : Names → List ℕ → ℕ → Type 0
HasFile n name f =
    IsGiven n.files f × (is_file_name name ≡ true) × (is_known_file name n.files ≡ true)
    × (file_number name n.files ≡ f)

abbrev pub with_file : Names → List ℕ → Names
with_file n name = record n { files = files_after name n.files }

-- how many live locks the type with this number has
abbrev pub live_of : Names → ℕ → ℕ
live_of n t = unwrap_or (with_number n.live t) 0

abbrev pub with_live : Names → ℕ → ℕ → Names
with_live n t count = record n { live = with_changed n.live t count }

-- whether these two names were blessed, in either order
abbrev pub are_blessed : List ℕ → List ℕ → List (List ℕ × List ℕ) → Bool
are_blessed a b pairs = list_any (is_named_pair a b) pairs

abbrev pub with_blessed : Names → List ℕ → List ℕ → Names
with_blessed n a b = record n { blessed = n.blessed ++ (a, b) ∷ [] }

abbrev pub are_names : List ℕ → List ℕ → Bool
are_names a b = is_name a && is_name b

-- a pair isn't blessed where one of the two is no name, or for want of memory
abbrev pub IsBlessRefusal : List ℕ → List ℕ → Fault → Type 0
IsBlessRefusal a b fault =
    ((fault ≡ BadName) × (are_names a b ≡ false)) ⊎ ((fault ≡ OutOfMemory) × (are_names a b ≡ true))
