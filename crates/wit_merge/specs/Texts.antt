-- What is written of the orders.
use Rattle.std.specs.Prelude.{ℕ, ◌+◌, ◌-◌, Bool, not, ◌==◌, ◌&&◌, nat_le, List, [], ◌∷◌, ◌++◌, length}
use Rattle.std.specs.Prelude.{take, Option, Some, codes, if◌then◌else◌}
use Rattle.std.specs.Fmt.{decimal}
use Rattle.std.specs.Str.{bytes_eq}
use Rattle.wit_recordings.specs.Recordings.{NamedType}
use Rattle.wit_orders.specs.declared.reading.OrderLine.{OrderLine}
use Rattle.wit_orders.specs.declared.reading.OrderLine.TheVariants.{Pair}
use Rattle.wit_orders.specs.Reading.{order_line, type_text}
use Rattle.wit_model.specs.Trace.Texts as texts
use Rattle.wit_merge.specs.declared.standing.Tally.{Tally}
use Rattle.wit_merge.specs.Rows.{Row}

-- ---- merged: how many runs were counted, and of each order how many met it, the last of them where
-- that is known, and its origin where it has one

abbrev pub runs_text : ℕ → List ℕ
runs_text total = texts.line (codes "runs " ∷ decimal total ∷ [])

abbrev pub last_text : ℕ → List ℕ
last_text n = if n == 0 then [] else 32 ∷ decimal n

abbrev pub row_text : Row → List ℕ
row_text r =
    decimal r.tally.runs ++ (last_text r.tally.last ++ (32 ∷ (r.key ++ (r.origin ++ 10 ∷ []))))

abbrev pub rows_text : List Row → List ℕ
rows_text [] = []
rows_text (r ∷ rows) = row_text r ++ rows_text rows

abbrev pub merged_text : ℕ → List Row → List ℕ
merged_text total rows = runs_text total ++ rows_text rows

-- ---- for people: each type, and below it, set in, what may be asked for while it is held

abbrev pub begins_while : List ℕ → Bool
begins_while bytes = bytes_eq (take 7 bytes) (codes " while ")

-- where a request was made, without where what is held was asked for
abbrev pub before_while : List ℕ → List ℕ
before_while [] = []
before_while (b ∷ bytes) =
    if begins_while (b ∷ bytes) then [] else b ∷ before_while bytes

-- of an origin, whose first byte is a tab
abbrev pub place_text : List ℕ → List ℕ
place_text [] = []
place_text (tab ∷ place) = codes "  " ++ before_while place

abbrev pub line_text : List ℕ → List ℕ
line_text line = line ++ 10 ∷ []

-- a type, unless the one before is the same
abbrev pub head_text : List ℕ → List ℕ → List ℕ
head_text held from = if bytes_eq from held then [] else line_text from

abbrev pub asked_text : List ℕ → List ℕ → List ℕ
asked_text to origin = codes "    " ++ (to ++ line_text (place_text origin))

-- what an order is read as, and the text of those that follow
abbrev pub people_row : Option (OrderLine NamedType) → List ℕ → List ℕ → (List ℕ → List ℕ) → List ℕ
people_row (Some (Pair a b)) held origin next =
    head_text held (type_text a) ++ (asked_text (type_text b) origin ++ next (type_text a))
people_row _ held origin next = next held

abbrev pub people_rows : List ℕ → List Row → List ℕ
people_rows held [] = []
people_rows held (r ∷ rows) =
    people_row (order_line r.key) held r.origin (λ from. people_rows from rows)

-- ---- unseen: the orders that weren't met within so many runs

abbrev pub is_unseen : ℕ → ℕ → Tally → Bool
is_unseen within total t = not (t.last == 0) && nat_le within (total - t.last)

abbrev pub ago_text : List ℕ → ℕ → List ℕ
ago_text key runs = key ++ (codes "\t# " ++ (decimal runs ++ codes " runs ago\n"))

abbrev pub unseen_rows : ℕ → ℕ → List Row → List ℕ
unseen_rows within total [] = []
unseen_rows within total (r ∷ rows) =
    (if is_unseen within total r.tally then ago_text r.key (total - r.tally.last) else [])
    ++ unseen_rows within total rows

abbrev pub count_if : (Tally → Bool) → List Row → ℕ
count_if test [] = 0
count_if test (r ∷ rows) = (if test r.tally then 1 else 0) + count_if test rows

abbrev pub is_unknown : Tally → Bool
is_unknown t = t.last == 0

-- the last line
abbrev pub unseen_line : ℕ → ℕ → ℕ → List ℕ
unseen_line unseen all unknown =
    texts.line (codes "unseen: " ∷ decimal unseen ∷ codes " of " ∷ decimal all
    ∷ codes " orders, unknown: " ∷ decimal unknown ∷ [])

abbrev pub unseen_text : ℕ → ℕ → List Row → List ℕ
unseen_text within total rows =
    unseen_rows within total rows
    ++ unseen_line (count_if (is_unseen within total) rows) (length rows) (count_if is_unknown rows)
