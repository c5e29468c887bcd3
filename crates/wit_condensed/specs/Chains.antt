-- Chains: the locks that a thread holds, oldest first.
use Rattle.std.specs.Prelude.{ℕ, Bool, false, ◌==◌, nat_lt, List, [], ◌∷◌}
use Rattle.std.specs.List.{list_any, list_all}
use Rattle.wit_condensed.specs.declared.chain.Link.{Link}
use Rattle.wit_condensed.specs.declared.row.TheConstants.{TYPES}

-- whether the chain has the lock with this number
abbrev pub has_lock : List Link → ℕ → Bool
has_lock links lock = list_any (λ (link : Link). link.lock == lock) links

-- whether it has one of type a
abbrev pub has_type : List Link → ℕ → Bool
has_type links a = list_any (λ (link : Link). link.type_no == a) links

-- whether it is one lock alone, of type a
abbrev pub is_alone : List Link → ℕ → Bool
is_alone (link ∷ []) a = link.type_no == a
is_alone _ a = false

-- whether each type is a number of a type
abbrev pub are_types : List Link → Bool
are_types links = list_all (λ (link : Link). nat_lt link.type_no TYPES) links
