-- How a list that is newest first began.
use Rattle.std.specs.Prelude.{◌≡◌, List, ◌++◌}

-- the one list is how the other began
abbrev pub IsBeginning : {X : Type 0} → List X → List X → Type 0
IsBeginning {X = X} first whole = (later : List X) × (whole ≡ later ++ first)
