-- Static lists of lock types in the order in which they are acquired, as the order lists of
-- subr_witness.c, and why a start with some is refused: a list is refused by the first kind of
-- fault that is anywhere in it.
use Rattle.std.specs.Prelude.{ℕ, ◌+◌, ◌<◌, ◌≤◌, ◌≡◌, ◌⊎◌, Bool, false, not, ◌&&◌, ◌||◌, nat_lt}
use Rattle.std.specs.Prelude.{List, [], ◌∷◌, length, Option, None, Some, if◌then◌else◌}
use Rattle.std.specs.List.{list_any}
use Rattle.std.specs.Option.{option_or}
use Rattle.std.specs.Str.{bytes_eq}
use Rattle.wit_model.specs.declared.faults.Fault.{Fault}
use Rattle.wit_model.specs.declared.faults.Fault.TheVariants.{BadName, ClassMismatch, TypesFull}
use Rattle.wit_model.specs.declared.faults.Fault.TheVariants.{KindMismatch, SameType, WrongOrder}
use Rattle.wit_model.specs.declared.faults.Fault.TheVariants.{OutOfMemory}
use Rattle.wit_model.specs.declared.locks.Class.{Class}
use Rattle.wit_model.specs.declared.locks.Origin.TheVariants.{Listed}
use Rattle.wit_model.specs.declared.calls.Adoption.{Adoption}
use Rattle.wit_model.specs.Rules.Names.{is_name}
use Rattle.wit_model.specs.Rules.Types.{LockType, is_spin, is_same_class, is_otherwise, type_number}
use Rattle.wit_model.specs.Rules.Types.{enrolled_all}
use Rattle.wit_model.specs.Rules.Orders.{is_before, adopted_once, listed_pairs}
use Rattle.wit_model.specs.Rules.State.{Start}

-- whether an entry gives a name another class than it has, or than the list gives it elsewhere
abbrev pub is_misclassed : List LockType → List (Class × List ℕ) → Class × List ℕ → Bool
is_misclassed types list entry =
    is_otherwise entry.1 entry.0 types
    || list_any (λ (other : Class × List ℕ). bytes_eq other.1 entry.1
    && not (is_same_class other.0 entry.0)) list

-- whether there are both spin locks and others
abbrev pub has_both_kinds : List (Class × List ℕ) → Bool
has_both_kinds list =
    list_any (λ (entry : Class × List ℕ). is_spin entry.0) list
    && list_any (λ (entry : Class × List ℕ). not (is_spin entry.0)) list

-- whether two neighbours are of one type
abbrev pub has_twin : List (Class × List ℕ) → Bool
has_twin [] = false
has_twin (a ∷ []) = false
has_twin (a ∷ b ∷ list) = bytes_eq a.1 b.1 || has_twin (b ∷ list)

-- whether, of two neighbours, the second is before the first once all earlier neighbours are
-- adopted
abbrev pub turns_round : List LockType → List Adoption → List (Class × List ℕ) → Bool
turns_round types orders [] = false
turns_round types orders (a ∷ []) = false
turns_round types orders (a ∷ b ∷ list) =
    is_before orders (type_number b.1 types) (type_number a.1 types)
    || turns_round types (adopted_once (type_number a.1 types)
    (type_number b.1 types) Listed orders) (b ∷ list)

-- why a list is refused, where there may be this many types, and these types and orders are known
abbrev pub list_fault : ℕ → List LockType → List Adoption → List (Class × List ℕ) → Option Fault
list_fault most types orders list =
    if list_any (λ (entry : Class × List ℕ). not (is_name entry.1)) list then Some BadName
    else if list_any (is_misclassed types list) list then Some ClassMismatch
    else if nat_lt most (length (enrolled_all list types)) then Some TypesFull
    else if has_both_kinds list then Some KindMismatch
    else if has_twin list then Some SameType
    else if turns_round (enrolled_all list types) orders list then Some WrongOrder
    else None

abbrev pub numbered : ℕ → Option Fault → Option (ℕ × Fault)
numbered number None = None
numbered number (Some fault) = Some (number, fault)

-- the first of these lists that is refused, counted on from a number, and why; each is judged
-- behind those before it
abbrev pub lists_fault : ℕ → ℕ → List (List (Class × List ℕ)) → List LockType → List Adoption
    → Option (ℕ × Fault)
lists_fault most number [] types orders = None
lists_fault most number (list ∷ lists) types orders =
    option_or (numbered number (list_fault most types orders list))
    (lists_fault most (number + 1) lists (enrolled_all list types)
    (listed_pairs (enrolled_all list types) list orders))

-- whether one of these pairs isn't of two names
abbrev pub has_bad_pair : List (List ℕ × List ℕ) → Bool
has_bad_pair pairs = list_any (λ (p : List ℕ × List ℕ). not (is_name p.0 && is_name p.1)) pairs

-- blessed pairs are of names; their number is 0
abbrev pub blessed_fault : List (List ℕ × List ℕ) → Option (ℕ × Fault)
blessed_fault blessed = if has_bad_pair blessed then Some (0, BadName) else None

-- why a start is refused, want of memory aside: the list, from 1, or 0 for the blessed pairs, and
-- its fault
abbrev pub start_fault : Start → Option (ℕ × Fault)
start_fault start =
    option_or (lists_fault start.sizes.types 1 start.lists [] []) (blessed_fault start.blessed)

-- the list with this number and all before it are accepted; with 0 nothing is said
abbrev pub IsAcceptedTo : ℕ → Option (ℕ × Fault) → Type 0
IsAcceptedTo number None = Unit {0}
IsAcceptedTo number (Some fault) = (number < fault.0) ⊎ (fault.0 ≡ 0)

-- a refusal names the start's fault; want of memory stands only in place of the acceptance of the
-- list that it names, or with 0, since the tables are made before any list is judged, of any answer
abbrev pub IsRefused : Start → ℕ → Fault → Type 0
IsRefused start number fault =
    (start_fault start ≡ Some (number, fault))
    ⊎ ((fault ≡ OutOfMemory) × ((number ≤ length start.lists)
    × IsAcceptedTo number (start_fault start)))
