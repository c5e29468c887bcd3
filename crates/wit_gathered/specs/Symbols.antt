-- The symbols of static variables, by their addresses.
use Rattle.std.specs.Prelude.{ℕ, ◌-◌, false, List, [], ◌∷◌, ◌++◌, Option, Some, None, codes, filter, nat_eq, nat_le, nat_lt}
use Rattle.std.specs.Prelude.{if◌then◌else◌}
use Rattle.std.specs.Fmt.{digits}
use Rattle.wit_gathered.specs.declared.statics.Statics.{Statics}
use Rattle.wit_gathered.specs.declared.statics.TheConstants.{FIRST}

abbrev pub symbols : Statics → List (ℕ × List ℕ)
symbols s = s.symbols.entries

abbrev pub last_of : {X : Type 0} → Option X → List X → Option X
last_of found [] = found
last_of found (x ∷ xs) = last_of (Some x) xs

-- the last symbol at the address or before it
abbrev pub symbol_at : List (ℕ × List ℕ) → ℕ → Option (ℕ × List ℕ)
symbol_at symbols address = last_of None (filter (λ (s : ℕ × List ℕ). nat_le s.0 address) symbols)

abbrev pub hexadecimal : ℕ → List ℕ
hexadecimal n = codes "0x" ++ digits 16 false n

abbrev pub offset_text : ℕ → List ℕ
offset_text n = if nat_eq n 0 then [] else 43 ∷ hexadecimal n

abbrev pub name_behind : Option (ℕ × List ℕ) → ℕ → Option (List ℕ)
name_behind None address = None
name_behind (Some s) address = Some (s.1 ++ offset_text (address - s.0))

-- the name of the static variable that an address lies in, with how far behind its beginning
abbrev pub name_at : List (ℕ × List ℕ) → ℕ → Option (List ℕ)
name_at symbols address =
    if nat_lt address FIRST then None else name_behind (symbol_at symbols address) address
