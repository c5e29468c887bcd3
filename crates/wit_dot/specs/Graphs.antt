-- The line of an arrow in a graph of dot.
use Rattle.std.specs.Prelude.{ℕ, List, ◌++◌, codes, flat_map}
use Rattle.std.specs.Str.{chars}
use Rattle.wit_dot.specs.Quotes.{quoted_char}

abbrev pub quoted : List ℕ → List ℕ
quoted text = flat_map quoted_char (chars text)

-- behind what was written: what was held, what was asked for, where, and how it is drawn
abbrev pub arrow_after : List ℕ → List ℕ → List ℕ → List ℕ → List ℕ → List ℕ
arrow_after written from to place looks =
    ((((((written ++ codes "    \"") ++ quoted from) ++ codes "\" -> \"") ++ quoted to)
    ++ codes "\" [label=\" ") ++ quoted place) ++ looks
