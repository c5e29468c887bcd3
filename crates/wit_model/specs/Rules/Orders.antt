-- Orders between lock types: witness "keeps track of the order in which locks are acquired with
-- respect to each other" (witness(4)). Lists of adoptions are newest first.
use Rattle.std.specs.Prelude.{ℕ, ◌+◌, ◌≡◌, map, reverse, Bool, true, false, ◌&&◌, ◌||◌, ◌==◌, List}
use Rattle.std.specs.Prelude.{[], ◌∷◌, ◌++◌, Option, find, if◌then◌else◌}
use Rattle.std.specs.List.{list_any}
use Rattle.std.specs.Option.{option_map}
use Rattle.wit_model.specs.declared.locks.Origin.{Origin}
use Rattle.wit_model.specs.declared.locks.Origin.TheVariants.{Listed, Defined, At}
use Rattle.wit_model.specs.declared.locks.Class.{Class}
use Rattle.wit_model.specs.declared.locks.Site.{Site}
use Rattle.wit_model.specs.declared.locks.TypeNo.{TypeNo}
use Rattle.wit_model.specs.declared.calls.Adoption.{Adoption}
use Rattle.wit_model.specs.declared.calls.Call.{Call}
use Rattle.wit_model.specs.declared.calls.Call.TheVariants.{Check, DefineOrder}
use Rattle.wit_model.specs.declared.calls.Reply.{Reply}
use Rattle.wit_model.specs.declared.calls.Reply.TheVariants.{Adopted, AdoptedAll}
use Rattle.wit_model.specs.declared.calls.Entry.{Entry}
use Rattle.wit_model.specs.Rules.Types.{LockType, type_number, enrolled_all}

abbrev pub is_adoption_of : ℕ → ℕ → Adoption → Bool
is_adoption_of a b o = (o.parent.0 == a) && (o.child.0 == b)

-- whether the order from a to b was adopted as a direct one
abbrev pub is_direct : List Adoption → ℕ → ℕ → Bool
is_direct orders a b = list_any (is_adoption_of a b) orders

-- where the direct order from a to b comes from, where there is one
abbrev pub origin_of : ℕ → ℕ → List Adoption → Option Origin
origin_of a b orders = option_map (λ (o : Adoption). o.origin) (find (is_adoption_of a b) orders)

-- from a by these types to b, each step an adopted order
abbrev pub IsPath : List Adoption → ℕ → List ℕ → ℕ → Type 0
IsPath orders a [] b = is_direct orders a b ≡ true
IsPath orders a (v ∷ way) b = (is_direct orders a v ≡ true) × IsPath orders v way b

-- a is before b: a path of adopted orders leads from a to b
abbrev pub Before : List Adoption → ℕ → ℕ → Type 0
Before orders a b = (way : List ℕ) × IsPath orders a way b

-- the test for it: adopting (p, c) puts p and all before it before c and all after it
abbrev pub is_before : List Adoption → ℕ → ℕ → Bool
is_before [] a b = false
is_before (o ∷ orders) a b =
    is_before orders a b
    || (((o.parent.0 == a) || is_before orders a o.parent.0)
    && ((o.child.0 == b) || is_before orders o.child.0 b))

-- no order stands twice: each was new when it was adopted
abbrev pub AreDistinct : List Adoption → Type 0
AreDistinct [] = Unit {0}
AreDistinct (o ∷ orders) = (is_direct orders o.parent.0 o.child.0 ≡ false) × AreDistinct orders

-- no type is before itself
abbrev pub IsSound : List Adoption → Type 0
IsSound orders = (a : ℕ) → Before orders a a → ⊥

abbrev pub is_pair_of : ℕ → ℕ → TypeNo × TypeNo → Bool
is_pair_of a b p = ((p.0.0 == a) && (p.1.0 == b)) || ((p.0.0 == b) && (p.1.0 == a))

-- whether the unordered pair of a and b is among these
abbrev pub is_found : List (TypeNo × TypeNo) → ℕ → ℕ → Bool
is_found pairs a b = list_any (is_pair_of a b) pairs

-- the pairs once a and b are found: a pair that is among them stays as it is
abbrev pub found_once : TypeNo → TypeNo → List (TypeNo × TypeNo) → List (TypeNo × TypeNo)
found_once a b pairs = if is_found pairs a.0 b.0 then pairs else (a, b) ∷ pairs

abbrev bit : ℕ → Bool → ℕ
bit value b = if b then value else 0

-- the relation of a row's type to a column's, as the bits of subr_witness.c's matrix: 0x01 parent,
-- 0x02 ancestor, 0x04 child, 0x08 descendant, 0x10 found in a reversal
abbrev pub cell : List Adoption → List (TypeNo × TypeNo) → ℕ → ℕ → ℕ
cell orders found i j =
    bit 0x01 (is_direct orders i j) + bit 0x02 (is_before orders i j)
    + bit 0x04 (is_direct orders j i) + bit 0x08 (is_before orders j i)
    + bit 0x10 (is_found found i j)

-- the orders once (p, c) is adopted: a direct order stays as it is
abbrev pub adopted_once : ℕ → ℕ → Origin → List Adoption → List Adoption
adopted_once p c origin orders =
    if is_direct orders p c then orders
    else record { parent = record { 0 = p }; child = record { 0 = c }; origin = origin } ∷ orders

-- the orders of neighbours in a static list, among these types
abbrev pub listed_pairs : List LockType → List (Class × List ℕ) → List Adoption → List Adoption
listed_pairs types [] orders = orders
listed_pairs types (a ∷ []) orders = orders
listed_pairs types (a ∷ b ∷ list) orders =
    listed_pairs types (b ∷ list)
    (adopted_once (type_number a.1 types) (type_number b.1 types) Listed orders)

-- the orders of static lists, each list entered behind those before it
abbrev pub listed_orders : List (List (Class × List ℕ)) → List LockType → List Adoption
    → List Adoption
listed_orders [] types orders = orders
listed_orders (list ∷ lists) types orders =
    listed_orders lists (enrolled_all list types)
    (listed_pairs (enrolled_all list types) list orders)

-- the order of these types, as a request at this place teaches it
abbrev pub taught_at : Site → TypeNo × TypeNo → Adoption
taught_at site p = record { parent = p.0; child = p.1; origin = At site }

-- what an entry adopts, newest first
abbrev pub adopted : Call → Reply → List Adoption
adopted (Check q) (Adopted p c) = record { parent = p; child = c; origin = At q.site } ∷ []
adopted (Check q) (AdoptedAll pairs) = reverse (map (taught_at q.site) pairs)
adopted (DefineOrder a b) (Adopted p c) = record { parent = p; child = c; origin = Defined } ∷ []
adopted _ _ = []

-- the orders after a history (newest entry first) that began with these
abbrev pub orders_from : List Adoption → List Entry → List Adoption
orders_from orders [] = orders
orders_from orders (e ∷ h) = adopted e.call e.reply ++ orders_from orders h
