-- The keys of the set of listed types, as lists of bytes.
use Rattle.std.specs.Prelude.{ℕ, List, map}
use Rattle.std.specs.Global.{Vec}

abbrev pub written : List (Vec ℕ) → List (List ℕ)
written keys = map (λ (key : Vec ℕ). key.items) keys
