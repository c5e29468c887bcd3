-- The orders that were read, each once, with how often each was met.
use Rattle.std.specs.Prelude.{ℕ, suc, zero, Bool, false, ◌==◌, List, [], ◌∷◌, ◌++◌, Option, None, Some, map, position}
use Rattle.std.specs.Global.{Vec}
use Rattle.std.specs.Str.{bytes_eq}
use Rattle.wit_merge.specs.declared.reading.Count.{Count}
use Rattle.wit_merge.specs.declared.rows.Note.{Note}
use Rattle.wit_merge.specs.declared.standing.Standing.{Standing}
use Rattle.wit_merge.specs.declared.standing.Tally.{Tally}
use Rattle.wit_merge.specs.Standing.{again, counted, unmet}

-- an order as it is written, its origin as it came first, and how often it was met
pub record Row : Type 0 where
  pub key : List ℕ
  pub origin : List ℕ
  pub tally : Tally

abbrev pub row : List ℕ → List ℕ → Tally → Row
row key origin tally = record { key = key; origin = origin; tally = tally }

abbrev pub row_of : Vec ℕ × Note → Row
row_of e = row e.0.items e.1.origin.items e.1.tally

abbrev pub rows_of : List (Vec ℕ × Note) → List Row
rows_of entries = map row_of entries

abbrev pub keys_of : List Row → List (List ℕ)
keys_of rows = map (λ (r : Row). r.key) rows

-- where an order stands
abbrev pub place_in : List Row → List ℕ → Option ℕ
place_in rows key = position (bytes_eq key) (keys_of rows)

-- ---- a change at a place

abbrev pub changed : List Row → ℕ → (Tally → Tally) → List Row
changed [] i change = []
changed (r ∷ rows) zero change = (record r { tally = change r.tally }) ∷ rows
changed (r ∷ rows) (suc i) change = r ∷ changed rows i change

abbrev pub file_at : List Row → ℕ → ℕ
file_at [] i = 0
file_at (r ∷ rows) zero = r.tally.file
file_at (r ∷ rows) (suc i) = file_at rows i

-- ---- an order that the file has

abbrev pub entered_at : Option ℕ → Standing → List Row → List ℕ → List ℕ → List Row
entered_at None s rows key origin = rows ++ row key origin (again s unmet) ∷ []
entered_at (Some i) s rows key origin = changed rows i (again s)

abbrev pub entered : Standing → List Row → List ℕ → List ℕ → List Row
entered s rows key origin = entered_at (place_in rows key) s rows key origin

-- ---- how many runs met an order

abbrev pub counted_at : Option ℕ → Standing → List Row → Count → List Row
counted_at None s rows c = rows
counted_at (Some i) s rows c = changed rows i (λ t. counted s t c)

abbrev pub counted_in : Standing → List Row → List ℕ → Count → List Row
counted_in s rows key c = counted_at (place_in rows key) s rows c

abbrev pub is_met_at : Option ℕ → Standing → List Row → Bool
is_met_at None s rows = false
is_met_at (Some i) s rows = file_at rows i == s.files

-- whether the file has the order
abbrev pub is_met : Standing → List Row → List ℕ → Bool
is_met s rows key = is_met_at (place_in rows key) s rows
