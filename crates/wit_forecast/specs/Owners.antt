-- Whose a line is: its second field says it.
use Rattle.std.specs.Prelude.{ℕ, ◌≡◌, ◌==◌, Bool, List, [], ◌∷◌, ◌++◌, filter, map, nat_eq}
use Rattle.std.specs.Prelude.{if◌then◌else◌}
use Rattle.std.specs.Global.{Vec}
use Rattle.std.specs.List.{starts_with}
use Rattle.std.specs.Fmt.{decimal}

abbrev pub lines_in : List (Vec ℕ) → List (List ℕ)
lines_in lines = map (λ (line : Vec ℕ). line.items) lines

-- the bytes after the first space
abbrev pub after_space : List ℕ → List ℕ
after_space [] = []
after_space (b ∷ bytes) = if b == 32 then bytes else after_space bytes

-- whether this stands after the first space
abbrev pub goes_on : List ℕ → List ℕ → Bool
goes_on field line = starts_with nat_eq (after_space line) field

-- the lines that go on so
abbrev pub going_on : List ℕ → List (List ℕ) → List (List ℕ)
going_on field lines = filter (goes_on field) lines

-- no trace has a seat of a greater number
abbrev pub most_seats : ℕ
most_seats = 256

-- a seat's number, as a field that another one follows
abbrev pub field : ℕ → List ℕ
field seat = decimal seat ++ 32 ∷ []

-- a seat's own lines: its number is their second field, and another one follows
abbrev pub own : ℕ → List (List ℕ) → List (List ℕ)
own seat lines = going_on (field seat) lines

-- the one list begins the other
abbrev pub Begins : List (List ℕ) → List (List ℕ) → Type 0
Begins first whole = (rest : List (List ℕ)) × (whole ≡ first ++ rest)
