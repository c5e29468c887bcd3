-- What observers are shown, and the rule under which they look at it.
use Rattle.std.specs.Prelude.{ℕ, ◌^◌, ◌≡◌, ◌<◌, List, ◌++◌, length, nat_le, if◌then◌else◌}
use mathlib.Core.List.{IsPrefix}
use mathlib.Core.Option.{some}
use lib.ListN.{get_elem?}
use Rattle.wit_model.specs.declared.calls.Adoption.{Adoption}
use Rattle.wit_adoptions.specs.Naming.{Name, Sheet, IsOf, orders_on}
use Rattle.wit_observers.specs.declared.store.Shape.{Shape}
use Rattle.wit_observers.specs.declared.store.Store.{Store}
use Rattle.wit_observers.specs.declared.store.Change.{Change}
use Rattle.wit_observers.specs.Numbers.{number_in, numbered_all, HasNumbers}

abbrev pub shape : Sheet → List Adoption → ℕ → List ℕ → Shape
shape page tail size cells = record { page = page; tail = tail; size = size; cells = cells }

abbrev pub shape_of : Store → Shape
shape_of s = shape s.page s.tail.orders s.size s.cells.items

-- what is shown once a change is taken in
abbrev pub with_change : Shape → Change → Shape
with_change s c =
    shape c.page c.orders.items s.size (numbered_all s.size s.cells c.before c.orders.items)

-- the orders that are shown: those on the page, and those that it doesn't have yet
abbrev pub shown : Name → Shape → List Adoption
shown name s = orders_on name s.page ++ s.tail

-- the page is of this list, and the cells say the numbers of the orders that are shown
pub record IsExact (name : Name) (s : Shape) : Type 0 where
  pub page : IsOf name s.page
  pub numbers : HasNumbers s.size (shown name s) s.cells
  pub few : length (shown name s) < 2 ^ 32

-- what each observer was told is how the orders that are shown begin
abbrev pub Begins : List Adoption → List (List Adoption) → Type 0
Begins orders views = (seat : ℕ) (told : List Adoption) → get_elem? views seat ≡ some told
    → IsPrefix told orders

abbrev pub IsShownTo : Name → Shape → List (List Adoption) → Type 0
IsShownTo name s views = IsExact name s × Begins (shown name s) views

-- who looks sees all orders that are shown, at least those that it was told
abbrev pub Sees : Name → List Adoption → Shape → List Adoption → Type 0
Sees name told s told_then =
    IsExact name s × IsPrefix told (shown name s) × (told_then ≡ shown name s)

-- the one goes on where the other ended
abbrev pub GoesOn : Name → Shape → Shape → Type 0
GoesOn name s t = IsExact name t × IsPrefix (shown name s) (shown name t)

-- the longer one of two lists, of which the one begins with the other
abbrev pub longer : List Adoption → List Adoption → List Adoption
longer xs ys = if nat_le (length xs) (length ys) then ys else xs

-- what a publisher has published, and how many types orders may be between
pub record Published : Type 0 where
  pub orders : List Adoption
  pub size : ℕ

-- a look at all orders that are shown: some of them were told before, some are on the page, and it
-- gives the number of the order from a to b
pub record Tells (told seen : List Adoption) (said a b : ℕ) (all : List Adoption) : Type 0 where
  pub more : IsPrefix told all
  pub begins : IsPrefix seen all
  pub number : said ≡ number_in all a b
  pub few : length seen < 2 ^ 32
