-- The rows of a table's map and set, as lists.
use Rattle.std.specs.Prelude.{ℕ, List, map, string_bytes}
use Rattle.std.specs.Global.{Global}
use Rattle.std.specs.declared.string.String.{String}
use Rattle.wit_model.specs.declared.locks.LockType.{LockType}
use Rattle.wit_table.specs.declared.types.TypeRow.{TypeRow}

-- a text on the heap
abbrev pub Text : Type 0
Text = String Global

abbrev pub type_in : Text × TypeRow → LockType
type_in e = record { name = string_bytes e.0; class = e.1.class }

abbrev pub types_in : List (Text × TypeRow) → List LockType
types_in es = map type_in es

abbrev pub live_in : List (Text × TypeRow) → List ℕ
live_in es = map (λ (e : Text × TypeRow). e.1.live) es

abbrev pub texts : List Text → List (List ℕ)
texts keys = map (λ (k : Text). string_bytes k) keys
