-- The laws: what is told is a circle of what was judged, and without it there is none.
use Rattle.std.specs.Prelude.{◌≡◌, ◌⊎◌, ◌↔◌, ℕ, true, List, [], ◌∷◌, map}
use Rattle.std.specs.List.{All}
use Rattle.wit_circles.specs.declared.orders.Order.{Order}
use Rattle.wit_circles.specs.Orders.{Has, IsWay, leads, Told, Judged}

-- the test is right: orders lead from a to b where a way does
abbrev pub LeadsByWays : Type 0
LeadsByWays = (orders : List Order) (a b : ℕ)
    → (leads orders a b ≡ true) ↔ ((way : List ℕ) × IsWay orders a way b)

-- no type leads round to itself
abbrev pub HaveNoCircle : List Order → Type 0
HaveNoCircle orders = (a c : ℕ) (way : List ℕ) → IsWay orders a (c ∷ way) a → ⊥

abbrev pub orders_told : Told → List Order
orders_told told = map (λ (t : Order × List ℕ). t.0) told

-- what isn't told was kept, and has no circle; each order that is told is one of those that were
-- judged, and so is each step of its way back
pub record IsParted (orders : List Order) (told : Told) : Type 0 where
  pub kept : List Order
  pub all : (a b : ℕ) → Has orders a b → Has kept a b ⊎ Has (orders_told told) a b
  pub from_kept : (a b : ℕ) → Has kept a b → Has orders a b
  pub from_told : (a b : ℕ) → Has (orders_told told) a b → Has orders a b
  pub free : HaveNoCircle kept
  pub back : All (λ (t : Order × List ℕ). IsWay kept t.0.to t.1 t.0.from) told

abbrev pub JudgedIsParted : Type 0
JudgedIsParted = (orders : List Order) (told : Told) → Judged [] orders told → IsParted orders told

-- so where nothing is told there is no circle
abbrev pub NothingToldIsFree : Type 0
NothingToldIsFree = (orders : List Order) → Judged [] orders [] → HaveNoCircle orders

-- ---- such orders

abbrev pub order : ℕ → ℕ → Order
order a b = record { from = a; to = b }

-- A before B, B before C, and C before A
abbrev pub round : List Order
round = order 0 1 ∷ order 1 2 ∷ order 2 0 ∷ []

-- C before A, with the way back: from A to B, and from B to C
abbrev pub told_last : Told
told_last = (order 2 0, 1 ∷ 2 ∷ []) ∷ []

-- of the first two nothing is told, so they are kept. Of all three just the last one is told, which
-- closes a circle with these
pub record ThreeAreMet : Type 0 where
  pub two : Judged [] (order 0 1 ∷ order 1 2 ∷ []) []
  pub judged : Judged [] round told_last
  pub alone : (told : Told) → Judged [] round told → orders_told told ≡ order 2 0 ∷ []
  pub circle : IsWay round 0 (1 ∷ 2 ∷ 0 ∷ []) 0
