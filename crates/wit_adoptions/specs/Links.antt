-- A list of adopted orders as links in a book: each says behind which end it was added, and which
-- end the list has since. Links stand oldest first, and so do orders.
use Rattle.std.specs.Prelude.{ℕ, ◌≡◌, ◌==◌, true, List, [], ◌∷◌, ◌++◌, if◌then◌else◌}
use Rattle.logbook.specs.Pages.{Cell, cell}
use Rattle.wit_model.specs.declared.calls.Adoption.{Adoption}
use Rattle.wit_adoptions.specs.declared.link.ListLink.{ListLink}

-- these orders, added behind this end
abbrev pub link : ℕ → ℕ → List Adoption → ListLink
link end next orders = record { end = end; next = next; orders = orders }

-- the orders that were added behind this end, and behind the ends that followed it
abbrev pub orders_since : ℕ → List ListLink → List Adoption
orders_since end [] = []
orders_since end (l ∷ links) =
    if l.end == end then l.orders ++ orders_since l.next links else orders_since end links

-- the end that the list with this first end has
abbrev pub end_behind : ℕ → List ListLink → ℕ
end_behind end [] = end
end_behind end (l ∷ links) =
    if l.end == end then end_behind l.next links else end_behind end links

-- a cell that is at home is one whose pen was used up
abbrev pub IsUsedUp : List Cell → ℕ → Type 0
IsUsedUp cells end = (cell cells end).1 ≡ true

-- who added a link used up the pen of its end
abbrev pub AreUsedUp : List Cell → List ListLink → Type 0
AreUsedUp cells [] = Unit {0}
AreUsedUp cells (l ∷ links) = IsUsedUp cells l.end × AreUsedUp cells links

-- the book's rule; its first word is the one at which steps are taken
pub record IsKept (cells : List Cell) (links : List ListLink) : Type 0 where
  pub head : IsUsedUp cells 0
  pub ends : AreUsedUp cells links
