-- The path by which an established order is told.
use Rattle.std.specs.Prelude.{ℕ, suc, zero, Bool, ◌&&◌, ◌||◌, ◌==◌, List, [], ◌∷◌, map, Option}
use Rattle.std.specs.Prelude.{None, Some, find, if◌then◌else◌}
use Rattle.std.specs.List.{range_with_len}
use Rattle.std.specs.Global.{Vec}
use Rattle.std.specs.Option.{option_map}
use Rattle.wit_model.specs.declared.locks.TypeNo.{TypeNo}
use Rattle.wit_model.specs.declared.calls.Adoption.{Adoption}
use Rattle.wit_model.specs.Rules.Orders.{is_direct, is_before}

-- whether the order from a to c was adopted, and c is b or before it
abbrev pub leads : List Adoption → ℕ → ℕ → ℕ → Bool
leads orders a b c = is_direct orders a c && ((c == b) || is_before orders c b)

-- the least of the first n types to which a path from a to b can go
abbrev pub next_type : List Adoption → ℕ → ℕ → ℕ → Option ℕ
next_type orders n a b = find (leads orders a b) (range_with_len 1 n)

abbrev pub onward : (ℕ → List ℕ) → Option ℕ → List ℕ
onward go None = []
onward go (Some c) = go c

-- from a to b, each time to the least type that leads there, over this many types at most
abbrev pub way : List Adoption → ℕ → ℕ → ℕ → ℕ → List ℕ
way orders n zero a b = []
way orders n (suc most) a b =
    a ∷ (if a == b then [] else onward (λ c. way orders n most c b) (next_type orders n a b))

-- the path from a to b among n types, where there is one
abbrev pub path : List Adoption → ℕ → ℕ → ℕ → Option (List ℕ)
path orders n a b = if is_before orders a b then Some (way orders n n a b) else None

abbrev pub type_numbers : List TypeNo → List ℕ
type_numbers types = map (λ (t : TypeNo). t.0) types

-- the numbers on a path, where there is one
abbrev pub path_numbers : Option (Vec TypeNo) → Option (List ℕ)
path_numbers p = option_map (λ (v : Vec TypeNo). type_numbers v.items) p
