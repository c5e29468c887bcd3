-- What the steps at the book's word tell.
use Rattle.std.specs.Prelude.{ℕ, ◌≡◌, List, ◌++◌}
use mathlib.Core.List.{IsPrefix}
use Rattle.logbook.specs.Pages.{Step, View, may_make}
use Rattle.wit_adoptions.specs.declared.link.ListLink.{ListLink}
use Rattle.wit_adoptions.specs.Links.{orders_since, end_behind}

-- there is a new end, with the right to its pen
abbrev pub Ends : Step ListLink → View ListLink ℕ → ℕ → View ListLink ℕ → Type 0
Ends s before found after = after.1.0.right ≡ may_make

-- whose end is the pen's has seen its whole list
abbrev pub Covers : Step ListLink → View ListLink ℕ → ℕ → View ListLink ℕ → Type 0
Covers s before found after =
    (after.1.0 ≡ before.1.0)
    × ((start : ℕ) (seen : List ListLink)
    → IsPrefix seen before.0 → end_behind start seen ≡ before.1.0.key
    → orders_since start after.0 ≡ orders_since start seen)

-- the list whose end was the pen's has these orders more, and the new end
abbrev pub Adds : Step ListLink → View ListLink ℕ → ℕ → View ListLink ℕ → Type 0
Adds s before found after =
    (start : ℕ) → end_behind start before.0 ≡ s.ask.end
    → (orders_since start after.0 ≡ orders_since start before.0 ++ s.ask.orders)
    × (end_behind start after.0 ≡ s.ask.next)
