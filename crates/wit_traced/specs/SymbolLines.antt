-- A line of `/proc/kallsyms`: an address, a letter, a name, and for one of a module the module.
use Rattle.std.specs.Prelude.{ℕ, Bool, ◌&&◌, ◌||◌, List, ◌∷◌, Option, Some, None, length, nat_eq, nat_lt}
use Rattle.std.specs.Prelude.{if◌then◌else◌}
use Rattle.std.specs.Char.{is_ascii_alphabetic}
use Rattle.std.specs.Option.{option_and_then}
use Rattle.wit_traced.specs.declared.symbols.Symbol.{Symbol}
use Rattle.wit_traced.specs.Numbers.{hexadecimal}
use Rattle.wit_traced.specs.Pieces.{before, onward}

abbrev pub is_of_data : ℕ → Bool
is_of_data b =
    nat_eq b 100 || (nat_eq b 68 || (nat_eq b 98 || (nat_eq b 66 || (nat_eq b 114 || nat_eq b 82))))

abbrev pub symbol : Symbol → ℕ × List ℕ
symbol s = (s.address, s.name.now)

-- no symbol where the line is that of a function
abbrev pub named_symbol : ℕ → ℕ → List ℕ → Option (Option (ℕ × List ℕ))
named_symbol address letter name =
    if nat_eq (length name) 0 then None
    else if nat_eq address 0 then Some None
    else if is_of_data letter then Some (Some (address, name))
    else Some None

abbrev pub symbol_behind : ℕ → List ℕ → Option (Option (ℕ × List ℕ))
symbol_behind address (first ∷ letter ∷ second ∷ text) =
    if nat_eq first 32 && (nat_eq second 32 && is_ascii_alphabetic letter)
    then named_symbol address letter (before 32 (before 9 text))
    else None
symbol_behind address _ = None

unfoldable pub symbol_of : List ℕ → Option (Option (ℕ × List ℕ))
symbol_of line =
    if nat_lt (length (before 32 line)) 8 then None
    else option_and_then (λ address. symbol_behind address (onward 32 line)) (hexadecimal (before 32 line))
