-- Orders that are kept or told, one after the other. Lists of kept orders are newest first.
use Rattle.std.specs.Prelude.{◌≡◌, ◌⊎◌, ℕ, ◌<◌, Bool, true, false, ◌&&◌, ◌||◌, ◌==◌, List, [], ◌∷◌, map}
use Rattle.std.specs.List.{All}
use Rattle.wit_circles.specs.declared.orders.Order.{Order}
use Rattle.wit_circles.specs.declared.orders.Against.{Against}

-- ---- ways

-- one of these orders is from a to b
abbrev pub Has : List Order → ℕ → ℕ → Type 0
Has [] a b = ⊥
Has (o ∷ orders) a b = ((o.from ≡ a) × (o.to ≡ b)) ⊎ Has orders a b

-- a way from a by these types, of which the last is b; the empty one leads from a type to itself
abbrev pub IsWayBy : (ℕ → ℕ → Type 0) → ℕ → List ℕ → ℕ → Type 0
IsWayBy next a [] b = a ≡ b
IsWayBy next a (c ∷ way) b = next a c × IsWayBy next c way b

-- a way by these orders
abbrev pub IsWay : List Order → ℕ → List ℕ → ℕ → Type 0
IsWay orders = IsWayBy (Has orders)

-- whether there is one: by the older orders alone, or by way of the newest one
unfoldable pub leads : List Order → ℕ → ℕ → Bool
leads [] a b = a == b
leads (o ∷ orders) a b = leads orders a b || (leads orders a o.from && leads orders o.to b)

-- ---- what is told

-- an order, and the types on the way from its second type back to its first
abbrev pub Told : Type 0
Told = List (Order × List ℕ)

-- an order is told first, with a way back by those that are kept
pub record TellsThen (kept : List Order) (o : Order) (next : Told → Type 0) (told : Told)
    : Type 0 where
  pub way : List ℕ
  pub rest : Told
  pub parted : told ≡ (o, way) ∷ rest
  pub back : IsWay kept o.to way o.from
  pub goes_on : next rest

-- where those that are kept lead back the order is told, else it is kept, too
abbrev pub JudgedBy : Bool → List Order → Order → (List Order → Told → Type 0) → Told → Type 0
JudgedBy false kept o next told = next (o ∷ kept) told
JudgedBy true kept o next told = TellsThen kept o (next kept) told

-- so are these orders, one after the other, where those are kept
abbrev pub Judged : List Order → List Order → Told → Type 0
Judged kept [] told = told ≡ []
Judged kept (o ∷ orders) told =
    JudgedBy (leads kept o.to o.from) kept o (λ next. Judged next orders) told

-- what the program's own list tells
abbrev pub shown : Against → Order × List ℕ
shown a = (a.order, a.way.items)

abbrev pub told_of : List Against → Told
told_of list = map shown list

-- the types of orders have numbers below this one
abbrev pub AreWithin : ℕ → List Order → Type 0
AreWithin types orders = All (λ o. (o.from < types) × (o.to < types)) orders
