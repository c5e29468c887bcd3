-- How two beginnings of one list stand to one another.
use Rattle.std.specs.Prelude.{◌<◌, ◌≡◌, List, length}
use Rattle.std.specs.Ordering.{MatchOrdering}
use Rattle.std.specs.declared.cmp.Ordering.{Ordering}
use mathlib.Core.List.{IsPrefix}

-- ys begins with xs, and goes on
abbrev pub IsShorter : {X : Type 0} → List X → List X → Type 0
IsShorter xs ys = IsPrefix xs ys × (length xs < length ys)

-- of two beginnings of one list: the first is shorter, they are the same, or the second is shorter
abbrev pub Compares : {X : Type 0} → List X → List X → Ordering → Type 0
Compares xs ys answer = MatchOrdering answer (IsShorter xs ys) (xs ≡ ys) (IsShorter ys xs)
