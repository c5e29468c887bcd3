-- What a matrix says of its types, as the relation matrix in the comments of subr_witness.c does:
-- for each two, how one is related to the other.
use Rattle.std.specs.Prelude.{ℕ, ◌≡◌, true, List, [], ◌∷◌, ◌++◌}
use Rattle.wit_model.specs.declared.locks.Origin.TheVariants.{Listed}
use Rattle.wit_model.specs.declared.locks.TypeNo.{TypeNo}
use Rattle.wit_model.specs.declared.calls.Adoption.{Adoption}
use Rattle.wit_model.specs.Rules.Orders.{is_direct, IsPath, is_found, adopted_once, found_once}
use Rattle.wit_model.specs.Rules.Numbers.{IsNumber}

-- the number of types, the adopted orders, and the unordered pairs found in violation. Both lists
-- stand for sets: they hold each member once, by rows, and nothing is said of where an order came
-- from
pub record Relation : Type 0 where
  pub size : ℕ
  pub orders : List Adoption
  pub found : List (TypeNo × TypeNo)

-- both hold the same direct orders
abbrev pub HasSameOrders : List Adoption → List Adoption → Type 0
HasSameOrders os ps = (a b : ℕ) → is_direct os a b ≡ is_direct ps a b

-- both hold the same unordered pairs
abbrev pub HasSameFound : List (TypeNo × TypeNo) → List (TypeNo × TypeNo) → Type 0
HasSameFound fs gs = (a b : ℕ) → is_found fs a b ≡ is_found gs a b

-- the orders, or the pairs, are between these types alone
abbrev pub OrdersAmong : ℕ → List Adoption → Type 0
OrdersAmong n os = (a b : ℕ) → is_direct os a b ≡ true → IsNumber n a × IsNumber n b

abbrev pub FoundAmong : ℕ → List (TypeNo × TypeNo) → Type 0
FoundAmong n fs = (a b : ℕ) → is_found fs a b ≡ true → IsNumber n a × IsNumber n b

-- the order from p to c is adopted, and nothing else changes
pub record Adopts (old : Relation) (p c : ℕ) (new : Relation) : Type 0 where
  pub size : new.size ≡ old.size
  pub orders : HasSameOrders new.orders (adopted_once p c Listed old.orders)
  pub found : new.found ≡ old.found

-- the unordered pair of a and b is found, and nothing else changes
pub record Finds (old : Relation) (a b : TypeNo) (new : Relation) : Type 0 where
  pub size : new.size ≡ old.size
  pub orders : HasSameOrders new.orders old.orders
  pub found : HasSameFound new.found (found_once a b old.found)

-- the list starts with a and ends with b, and each step is an adopted order
abbrev pub LeadsBy : List Adoption → ℕ → ℕ → List ℕ → Type 0
LeadsBy os a b types =
    (between : List ℕ) × ((types ≡ a ∷ between ++ b ∷ []) × IsPath os a between b)
