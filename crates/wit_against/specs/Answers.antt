-- What is written of orders that are against others.
use Rattle.std.specs.Prelude.{ℕ, List, [], ◌∷◌, ◌++◌, length, codes}
use Rattle.std.specs.Fmt.{decimal}
use Rattle.wit_model.specs.Trace.Texts as texts
use Rattle.wit_circles.specs.Orders.{Told}
use Rattle.wit_against.specs.Known.{Known, line_of}

abbrev pub line_text : List ℕ → List ℕ
line_text line = line ++ 10 ∷ []

-- the orders of a way, set in
abbrev pub way_text : Known → ℕ → List ℕ → List ℕ
way_text k a [] = []
way_text k a (c ∷ way) =
    codes "    " ++ (line_text (line_of k (record { from = a; to = c })) ++ way_text k c way)

-- each order that is against others, and the way back below it
abbrev pub told_text : Known → Told → List ℕ
told_text k [] = []
told_text k (t ∷ told) = line_text (line_of k t.0) ++ (way_text k t.0.to t.1 ++ told_text k told)

abbrev pub last_text : Known → ℕ → List ℕ
last_text k against =
    texts.line (codes "against: " ∷ decimal against ∷ codes " of " ∷ decimal (length k.orders)
    ∷ codes " orders, " ∷ decimal (length k.types) ∷ codes " types" ∷ [])
