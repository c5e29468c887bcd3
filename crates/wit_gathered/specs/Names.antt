-- Sets of names, in the sequence in which they came.
use Rattle.std.specs.Prelude.{ℕ, Bool, List, [], ◌∷◌, ◌++◌, length, map, position, Option, unwrap_or}
use Rattle.std.specs.Prelude.{if◌then◌else◌}
use Rattle.std.specs.List.{list_any}
use Rattle.std.specs.Global.{Vec}
use Rattle.std.specs.Str.{bytes_eq}

-- the keys of a set
abbrev pub written : List (Vec ℕ) → List (List ℕ)
written keys = map (λ (key : Vec ℕ). key.items) keys

-- where a name stands
abbrev pub place_in : List (List ℕ) → List ℕ → Option ℕ
place_in names name = position (bytes_eq name) names

abbrev pub has_name : List (List ℕ) → List ℕ → Bool
has_name names name = list_any (bytes_eq name) names

-- a name that isn't there goes last
abbrev pub with_name : List (List ℕ) → List ℕ → List (List ℕ)
with_name names name = if has_name names name then names else names ++ name ∷ []

-- its number then: how many stand before it
abbrev pub number_in : List (List ℕ) → List ℕ → ℕ
number_in names name = unwrap_or (place_in names name) (length names)
