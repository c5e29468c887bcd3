-- The numbers of adopted orders: an order's number is its place in a list of them, oldest first,
-- counted from 1.
use Rattle.std.specs.Prelude.{ℕ, ◌+◌, ◌-◌, ◌*◌, ◌≡◌, Bool, ◌&&◌, ◌==◌, List, [], ◌∷◌, length}
use Rattle.std.specs.Prelude.{get_or, slice_set, if◌then◌else◌}
use Rattle.std.specs.List.{list_all, position_or_len}
use Rattle.wit_model.specs.declared.calls.Adoption.{Adoption}
use Rattle.wit_model.specs.Rules.Numbers.{is_number}
use Rattle.wit_model.specs.Rules.Orders.{is_adoption_of, is_direct}

-- the number of the order from a to b, by the first time that it was adopted; 0 where it wasn't
abbrev pub number_in : List Adoption → ℕ → ℕ → ℕ
number_in orders a b =
    if is_direct orders a b then position_or_len (is_adoption_of a b) orders + 1 else 0

-- whether both are types among the first n
abbrev pub fits : ℕ → ℕ → ℕ → Bool
fits n a b = is_number n a && is_number n b

-- where the order from a to b stands in a square of cells, row by row
abbrev pub cell_place : ℕ → ℕ → ℕ → ℕ
cell_place n a b = (a - 1) * n + (b - 1)

-- what a square of cells says of the order from a to b
abbrev pub number_at : ℕ → List ℕ → ℕ → ℕ → ℕ
number_at n cells a b = if fits n a b then get_or cells (cell_place n a b) 0 else 0

-- the cells once the order from a to b has this number: one that it had before stays
abbrev pub numbered_one : ℕ → List ℕ → ℕ → ℕ → ℕ → List ℕ
numbered_one n cells a b number =
    if fits n a b && (number_at n cells a b == 0) then slice_set cells (cell_place n a b) number
    else cells

-- the cells once these orders have the numbers behind those of so many before them
abbrev pub numbered_all : ℕ → List ℕ → ℕ → List Adoption → List ℕ
numbered_all n cells before [] = cells
numbered_all n cells before (o ∷ later) =
    numbered_all n (numbered_one n cells o.parent.0 o.child.0 (before + 1)) (before + 1) later

-- whether all these orders are between the first n types
abbrev pub all_fit : ℕ → List Adoption → Bool
all_fit n orders = list_all (λ o. fits n o.parent.0 o.child.0) orders

-- the square says the number of each order
pub record HasNumbers (n : ℕ) (orders : List Adoption) (cells : List ℕ) : Type 0 where
  pub square : length cells ≡ n * n
  pub numbers : (a b : ℕ) → number_at n cells a b ≡ number_in orders a b
