-- Sets of pairs of types (held, asked): for each type that is asked for a row of bits, in which the
-- bit of a type stands for that type held.
use Rattle.std.specs.Prelude.{ℕ, ◌/◌, ◌%◌, ◌≡◌, Bool, ◌||◌, ◌==◌, List, [], get_or}
use Rattle.std.specs.Int.{bit_at}

-- whether a row has the bit of type a
abbrev pub has_bit : List ℕ → ℕ → Bool
has_bit row a = bit_at (get_or row (a / 64) 0) (a % 64) == 1

-- whether the pair (a, b) is in the set: b asked for while a is held
abbrev pub has_pair : List (List ℕ) → ℕ → ℕ → Bool
has_pair rows a b = has_bit (get_or rows b []) a

-- the set grows by just the pairs for which this holds
abbrev pub AddsPairs : List (List ℕ) → (ℕ → ℕ → Bool) → List (List ℕ) → Type 0
AddsPairs old test new = (a b : ℕ) → has_pair new a b ≡ (has_pair old a b || test a b)
