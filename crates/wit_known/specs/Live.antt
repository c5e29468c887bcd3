-- Which locks are live, by their numbers, and how many of them are of a type.
use Rattle.std.specs.Prelude.{ℕ, ◌+◌, Bool, false, not, ◌&&◌, ◌==◌, List, [], ◌∷◌, Option, None}
use Rattle.std.specs.Prelude.{Some, map, unwrap_or, if◌then◌else◌}
use Rattle.std.specs.List.{range_with_len}
use Rattle.wit_model.specs.declared.locks.Lock.{Lock}
use Rattle.wit_model.specs.Rules.Locks.{is_destroyed}
use Rattle.wit_model.specs.Rules.Numbers.{is_given, with_number}
use Rattle.wit_model.specs.Rules.State.{State, live}

-- of n locks each but these
abbrev pub live_flags : ℕ → List ℕ → List Bool
live_flags n destroyed = map (λ l. not (is_destroyed destroyed l)) (range_with_len 1 n)

-- whether the lock with this number is
abbrev pub is_flagged : List Bool → ℕ → Bool
is_flagged flags l = unwrap_or (with_number flags l) false

-- how many of these locks are flagged and of a type
abbrev pub live_count : List Lock → List Bool → ℕ → ℕ
live_count [] flags t = 0
live_count (l ∷ locks) [] t = 0
live_count (l ∷ locks) (b ∷ flags) t =
    (if (l.type_no.0 == t) && b then 1 else 0) + live_count locks flags t

-- what callers are told of a type: nothing under a number that was never given
abbrev pub live_told : State → ℕ → Option ℕ
live_told s t = if is_given s.known.types t then Some (live s t) else None
