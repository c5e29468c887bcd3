-- Which list it is, and what a sheet of it has.
use Rattle.std.specs.Prelude.{ℕ, ◌≡◌, List, length}
use Rattle.logbook.specs.Pages.{Book}
use Rattle.wit_model.specs.declared.calls.Adoption.{Adoption}
use Rattle.wit_adoptions.specs.declared.link.ListLink.{ListLink}
use Rattle.wit_adoptions.specs.Links.{orders_since}

-- which list of adopted orders it is: the book that it stands in, and its first end there
pub record Name : Type 0 where
  pub book : Book
  pub start : ℕ

-- what was seen of a book, and a count
pub record Sheet : Type 0 where
  pub book : Book
  pub links : List ListLink
  pub count : ℕ

abbrev pub name : Book → ℕ → Name
name book start = record { book = book; start = start }

abbrev pub sheet : Book → List ListLink → ℕ → Sheet
sheet book links count = record { book = book; links = links; count = count }

-- the orders of the list with this name that stand on the sheet, oldest first
abbrev pub orders_on : Name → Sheet → List Adoption
orders_on name s = orders_since name.start s.links

-- the sheet is of this list's book, and counts its orders
abbrev pub IsOf : Name → Sheet → Type 0
IsOf name s = (s.book ≡ name.book) × (s.count ≡ length (orders_on name s))
