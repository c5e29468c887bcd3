-- Numbers of a line.
use Rattle.std.specs.Prelude.{ℕ, ◌+◌, ◌-◌, ◌*◌, ◌^◌, ◌&&◌, List, [], ◌∷◌, Option, Some, None, codes, nat_le}
use Rattle.std.specs.Prelude.{nat_lt, if◌then◌else◌}
use Rattle.wit_traced.specs.Pieces.{without}

abbrev pub decimal_digit : ℕ → Option ℕ
decimal_digit b = if nat_le 48 b && nat_le b 57 then Some (b - 48) else None

abbrev pub hexadecimal_digit : ℕ → Option ℕ
hexadecimal_digit b =
    if nat_le 48 b && nat_le b 57 then Some (b - 48)
    else if nat_le 97 b && nat_le b 102 then Some (b - 97 + 10)
    else if nat_le 65 b && nat_le b 70 then Some (b - 65 + 10)
    else None

-- a number, and a further digit: where it has 64 bits at most
abbrev pub with_digit : ℕ → ℕ → Option ℕ → Option ℕ
with_digit base value None = None
with_digit base value (Some digit) =
    if nat_lt (value * base + digit) (2 ^ 64) then Some (value * base + digit) else None

abbrev pub number_from : ℕ → (ℕ → Option ℕ) → List ℕ → Option ℕ → Option ℕ
number_from base digit bytes None = None
number_from base digit [] (Some value) = Some value
number_from base digit (b ∷ bytes) (Some value) =
    number_from base digit bytes (with_digit base value (digit b))

-- one digit or more
abbrev pub number_of : ℕ → (ℕ → Option ℕ) → List ℕ → Option ℕ
number_of base digit [] = None
number_of base digit (b ∷ bytes) = number_from base digit (b ∷ bytes) (Some 0)

abbrev pub decimal : List ℕ → Option ℕ
decimal bytes = number_of 10 decimal_digit bytes

-- behind `0x` or not
abbrev pub hexadecimal : List ℕ → Option ℕ
hexadecimal bytes = number_of 16 hexadecimal_digit (without (codes "0x") bytes)
