-- The orders that are kept, as rows, and ranks that may rise along each of them.
use Rattle.std.specs.Prelude.{◌≡◌, ℕ, ◌<◌, true, false, List, Option, None, Some}
use Rattle.std.specs.Prelude.{slice_index}
use Rattle.std.specs.Global.{Vec}
use Rattle.wit_circles.specs.declared.orders.Order.{Order}
use Rattle.wit_circles.specs.declared.kept.Kept.{Kept}
use Rattle.wit_circles.specs.Orders.{Has, IsWay, leads}
use Rattle.wit_circles.specs.Searching.{rows_of, IsTable, Next}

-- each order goes to a greater rank
abbrev pub Rises : List (List ℕ) → List ℕ → Type 0
Rises rows ranks = (a b : ℕ) → Next rows a b → slice_index ranks a < slice_index ranks b

-- the rows have just these orders
pub record IsKept (orders : List Order) (kept : Kept) : Type 0 where
  pub table : IsTable (rows_of kept.rows.items)
  pub there : (a b : ℕ) → Has orders a b → Next (rows_of kept.rows.items) a b
  pub alone : (a b : ℕ) → Next (rows_of kept.rows.items) a b → Has orders a b
  pub ranked : kept.are_ranked ≡ true → Rises (rows_of kept.rows.items) kept.ranks.items

-- some orders
abbrev pub AreKept : Kept → Type 0
AreKept kept = (orders : List Order) × IsKept orders kept

-- whether the orders lead back from the order's second type to its first, and how
abbrev pub TellsBack : List Order → Order → Option (Vec ℕ) → Type 0
TellsBack orders o None = leads orders o.to o.from ≡ false
TellsBack orders o (Some way) = IsWay orders o.to way.items o.from
