-- How C has a verifier begin.
use Rattle.std.specs.Prelude.{ℕ, ℤ, pos, ◌≡◌, Bool, true, false, List, map, Option, None, Some}
use Rattle.std.specs.Prelude.{is_some, unwrap_or, Ok}
use Rattle.std.specs.Borrow.{Bor}
use Rattle.std.specs.List.{list_all}
use Rattle.wit_model.specs.declared.calls.Reply.TheVariants.{Pass}
use Rattle.wit_model.specs.declared.faults.Fault.{Fault}
use Rattle.wit_model.specs.declared.locks.Class.{Class}
use Rattle.wit_model.specs.declared.locks.Class.TheVariants.{SleepMutex}
use Rattle.wit_model.specs.declared.profiles.Profile.{Profile}
use Rattle.wit_model.specs.Rules.Sizes.{Sizes}
use Rattle.wit_model.specs.Rules.Start.{start_fault, IsRefused}
use Rattle.wit_model.specs.Rules.State.{Start, fresh}
use Rattle.wit_c.specs.Numbers.{full_place, no_such, fault_number, class_in}
use Rattle.wit_c.specs.Texts.{name_in}
use Rattle.wit_c.specs.declared.kept_verifier.KeptVerifier.{KeptVerifier}
use Rattle.wit_c.specs.declared.lists.ListedType.{ListedType}
use Rattle.wit_c.specs.declared.lists.BlessedPair.{BlessedPair}

abbrev pub has_class : ListedType → Bool
has_class listed = is_some (class_in listed.class)

-- whether each type of these lists has a class
abbrev pub have_classes : List (Bor (List ListedType)) → Bool
have_classes lists = list_all (λ (list : Bor (List ListedType)). list_all has_class list.now) lists

-- a type that has none counts as a mutex's: nothing begins with one
abbrev pub type_in : ListedType → Class × List ℕ
type_in listed = (unwrap_or (class_in listed.class) SleepMutex, name_in listed.name.now)

abbrev pub lists_in : List (Bor (List ListedType)) → List (List (Class × List ℕ))
lists_in lists = map (λ (list : Bor (List ListedType)). map type_in list.now) lists

abbrev pub pair_in : BlessedPair → List ℕ × List ℕ
pair_in pair = (name_in pair.first.now, name_in pair.second.now)

abbrev pub start_in : Profile → Sizes → List (Bor (List ListedType)) → List BlessedPair → Start
start_in profile sizes lists pairs = record {
  sizes = sizes;
  profile = profile;
  lists = lists_in lists;
  blessed = map pair_in pairs;
}

-- the place has a verifier that begins so, and nothing is reported yet; or the start is refused, and
-- the fault's number and its list's are told
abbrev pub IsBegun : Start → ℤ → ℕ → Option KeptVerifier → Type 0
IsBegun start n list None =
    (fault : Fault) × (IsRefused start list fault × (n ≡ fault_number fault))
IsBegun start n list (Some kept) =
    (start_fault start ≡ None) × ((kept.verifier ≡ fresh start) × ((kept.last ≡ Ok Pass)
    × ((n ≡ pos 0) × (list ≡ 0))))

-- no verifier is made: that is the answer, no list is named, and the place stays
abbrev pub IsUnmade : Option KeptVerifier → ℤ → ℤ → ℕ → Option KeptVerifier → Type 0
IsUnmade old answer n list new = (n ≡ answer) × ((list ≡ 0) × (new ≡ old))

-- where the numbers stand for something, a verifier begins
abbrev pub Begins : Bool → Start → ℤ → ℕ → Option KeptVerifier → Type 0
Begins true start n list new = IsBegun start n list new
Begins false start n list new = IsUnmade None no_such n list new

-- in a place that is empty
abbrev pub Starts : Bool → Start → Option KeptVerifier → ℤ → ℕ → Option KeptVerifier → Type 0
Starts good start None n list new = Begins good start n list new
Starts good start (Some kept) n list new = IsUnmade (Some kept) full_place n list new
