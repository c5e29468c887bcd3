-- Numbers of what stands in a list: the first has number 1, and none has number 0.
use Rattle.std.specs.Prelude.{ℕ, ◌-◌, ◌<◌, ◌≤◌, Bool, ◌&&◌, nat_lt, nat_le, List, length, slice_get}
use Rattle.std.specs.Prelude.{slice_set, Option, None, if◌then◌else◌}

-- whether n is one of the numbers from 1 to most
abbrev pub is_number : ℕ → ℕ → Bool
is_number most n = nat_lt 0 n && nat_le n most

abbrev pub IsNumber : ℕ → ℕ → Type 0
IsNumber most n = (0 < n) × (n ≤ most)

-- whether one of these has this number
abbrev pub is_given : {X : Type 0} → List X → ℕ → Bool
is_given xs n = is_number (length xs) n

abbrev pub IsGiven : {X : Type 0} → List X → ℕ → Type 0
IsGiven xs n = IsNumber (length xs) n

-- the one with this number
abbrev pub with_number : {X : Type 0} → List X → ℕ → Option X
with_number xs n = if nat_lt 0 n then slice_get xs (n - 1) else None

-- the list with another in the place of the one with this number
abbrev pub with_changed : {X : Type 0} → List X → ℕ → X → List X
with_changed xs n x = if nat_lt 0 n then slice_set xs (n - 1) x else xs
