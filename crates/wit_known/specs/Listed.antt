-- Static lists and blessed pairs, as the rules speak of them.
use Rattle.std.specs.Prelude.{String, ℕ, ◌<◌, ◌≤◌, ◌≡◌, ◌⊎◌, Bool, true, false, not, ◌||◌, List, []}
use Rattle.std.specs.Prelude.{◌∷◌, map, length, Option, Some, string_bytes}
use Rattle.std.specs.List.{list_any, list_all}
use Rattle.std.specs.Global.{Vec, Global}
use Rattle.std.specs.Str.{bytes_eq}
use Rattle.wit_model.specs.declared.faults.Fault.{Fault}
use Rattle.wit_model.specs.declared.faults.Fault.TheVariants.{OutOfMemory}
use Rattle.wit_model.specs.declared.locks.Class.{Class}
use Rattle.wit_model.specs.declared.calls.Adoption.{Adoption}
use Rattle.wit_model.specs.declared.locks.LockType.{LockType}
use Rattle.wit_model.specs.Rules.Names.{is_name}
use Rattle.wit_model.specs.Rules.Types.{is_enrolled, type_number, enrolled_all, listed_types}
use Rattle.wit_model.specs.Rules.Orders.{is_before, listed_pairs, listed_orders}
use Rattle.wit_model.specs.Rules.State.{Known}
use Rattle.wit_model.specs.Rules.Start.{is_misclassed, has_twin, turns_round, IsAcceptedTo}
use Rattle.wit_table.specs.Known.{Names, live_of}

abbrev pub entry_of : Class × String Global → Class × List ℕ
entry_of entry = (entry.0, string_bytes entry.1)

-- a list, by the bytes of its names
abbrev pub listed : List (Class × String Global) → List (Class × List ℕ)
listed list = map entry_of list

abbrev pub all_listed : List (Vec (Class × String Global)) → List (List (Class × List ℕ))
all_listed lists = map (λ (list : Vec (Class × String Global)). listed list.items) lists

abbrev pub pair_of : String Global × String Global → List ℕ × List ℕ
pair_of pair = (string_bytes pair.0, string_bytes pair.1)

abbrev pub pairs_of : List (String Global × String Global) → List (List ℕ × List ℕ)
pairs_of blessed = map pair_of blessed

-- what is known once a list, or each of these, is entered
abbrev pub list_entered : Known → List (Class × List ℕ) → Known
list_entered k list = record k {
  types = enrolled_all list k.types;
  orders = listed_pairs (enrolled_all list k.types) list k.orders;
}

abbrev pub lists_entered : Known → List (List (Class × List ℕ)) → Known
lists_entered k lists =
    record k { types = listed_types lists k.types; orders = listed_orders lists k.types k.orders }

-- only types with numbers up to this one are before others or after them
abbrev pub IsWithin : ℕ → List Adoption → Type 0
IsWithin most orders = (a b : ℕ) → is_before orders a b ≡ true → (a ≤ most) × (b ≤ most)

-- whether a name is another, or its type is before the other's
abbrev pub is_back : List LockType → List Adoption → List ℕ → List ℕ → Bool
is_back types orders a b =
    bytes_eq b a || is_before orders (type_number b types) (type_number a types)

-- whether a later entry's type is an earlier one's or before it
abbrev pub goes_back : List LockType → List Adoption → List (Class × List ℕ) → Bool
goes_back types orders [] = false
goes_back types orders (a ∷ list) =
    list_any (λ (b : Class × List ℕ). is_back types orders a.1 b.1) list
    || goes_back types orders list

-- why lists are refused: their fault, or want of memory in place of the acceptance of one of them
abbrev pub AreRefused : Option (ℕ × Fault) → List (List (Class × List ℕ)) → ℕ → Fault → Type 0
AreRefused answer lists number fault =
    (answer ≡ Some (number, fault))
    ⊎ ((fault ≡ OutOfMemory) × ((0 < number)
    × ((number ≤ length lists) × IsAcceptedTo number answer)))

-- the names are names, no class differs, and there is room: so each type can be enrolled
pub record CanBeEnrolled (most : ℕ) (types : List LockType)
    (list : List (Class × List ℕ)) : Type 0 where
  pub names : list_any (λ (e : Class × List ℕ). not (is_name e.1)) list ≡ false
  pub classes : list_any (is_misclassed types list) list ≡ false
  pub room : length (enrolled_all list types) ≤ most

-- the names are enrolled, no two neighbours have one name, and none turns an order round: so each
-- order can be adopted
pub record CanBeAdopted (types : List LockType) (orders : List Adoption)
    (list : List (Class × List ℕ)) : Type 0 where
  pub known : list_all (λ (e : Class × List ℕ). is_enrolled e.1 types) list ≡ true
  pub apart : has_twin list ≡ false
  pub forward : turns_round types orders list ≡ false

-- only types have changed, and new ones have no live lock
pub record KeepsRest (old new : Names) : Type 0 where
  pub files : new.files ≡ old.files
  pub blessed : new.blessed ≡ old.blessed
  pub most_types : new.most_types ≡ old.most_types
  pub most_files : new.most_files ≡ old.most_files
  pub live : (t : ℕ) → live_of new t ≡ live_of old t
