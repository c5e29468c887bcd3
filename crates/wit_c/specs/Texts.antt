-- Texts that C gives, and buffers that it is given them in.
use Rattle.std.specs.Prelude.{ℕ, ℤ, ◌≡◌, ◌⊎◌, List, [], ◌++◌, length, take, drop, min}
use Rattle.std.specs.Prelude.{Option, None, Some, if◌then◌else◌}
use Rattle.wit_model.specs.declared.faults.Fault.TheVariants.{OutOfMemory}
use Rattle.wit_model.specs.Rules.Names.{is_name, is_file_name}
use Rattle.wit_c.specs.Numbers.{count_number, fault_number}

-- bytes that are no name stand for the empty text, which is none either
abbrev pub name_in : List ℕ → List ℕ
name_in bytes = if is_name bytes then bytes else []

abbrev pub file_name_in : List ℕ → List ℕ
file_name_in bytes = if is_file_name bytes then bytes else []

-- no byte is no name of a type
abbrev pub type_name_in : List ℕ → Option (List ℕ)
type_name_in [] = None
type_name_in bytes = Some (name_in bytes)

-- so many of the one, and what the other has after them
abbrev pub at_front : {X : Type 0} → ℕ → List X → List X → List X
at_front n one other = take n one ++ drop n other

-- a buffer with as much of a text as it has room for; the rest of it stays
abbrev pub filled : {X : Type 0} → List X → List X → List X
filled text buffer = at_front (min (length text) (length buffer)) text buffer

-- the whole text's length is answered, and the buffer is filled
abbrev pub IsTold : {X : Type 0} → List X → List X → ℤ → List X → Type 0
IsTold text old n new = (n ≡ count_number (length text)) × (new ≡ filled text old)

-- there was no memory for it, and the buffer stays
abbrev pub IsUntold : {X : Type 0} → List X → ℤ → List X → Type 0
IsUntold old n new = (n ≡ fault_number OutOfMemory) × (new ≡ old)

-- the one or the other
abbrev pub IsToldOrFails : {X : Type 0} → List X → List X → ℤ → List X → Type 0
IsToldOrFails text old n new = IsTold text old n new ⊎ IsUntold old n new
