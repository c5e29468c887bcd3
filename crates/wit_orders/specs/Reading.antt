-- What a line says: the next type of a sequence, or a pair of types, as a file of orders has it.
use Rattle.std.specs.Prelude.{◌≡◌, ℕ, Bool, not, List, [], ◌∷◌, ◌++◌, length, Option, Some}
use Rattle.std.specs.Prelude.{None, Result, Ok, Err, codes, ◌==◌, ◌||◌, take, if◌then◌else◌}
use Rattle.std.specs.Borrow.{Bor}
use Rattle.std.specs.Str.{bytes_eq}
use Rattle.wit_model.specs.Trace.Reading.{◌>>=◌, after, until, class_named, accepted, fixed_at}
use Rattle.wit_model.specs.Trace.Reading.{Reader}
use Rattle.wit_model.specs.Trace.Spelling.{class_text, quoted}
use Rattle.wit_fields.specs.declared.errors.LineError.{LineError}
use Rattle.wit_fields.specs.Fields.{Fails}
use Rattle.wit_recordings.specs.Recordings.{NamedType}
use Rattle.wit_orders.specs.declared.reading.OrderLine.{OrderLine}
use Rattle.wit_orders.specs.declared.reading.OrderLine.TheVariants.{Listed, Pair}

-- a type as it is written: CLASS "NAME"
abbrev pub type_text : NamedType → List ℕ
type_text t = class_text t.0 ++ 32 ∷ quoted t.1

-- a name of any length has one byte at least; what ends it is a quotation mark
abbrev pub is_type_name : List ℕ → Bool
is_type_name name = not (length name == 0)

-- a name between quotation marks, behind a space
unfoldable pub leading_type_name : Reader (List ℕ)
leading_type_name bytes =
    after 32 bytes >>= λ opened. after 34 opened >>= λ inside.
    accepted is_type_name (until 34 inside).0 >>= λ name.
    after 34 (until 34 inside).1 >>= λ rest. Some (name, rest)

-- the type that stands first, and what follows it
unfoldable pub first_type : Reader NamedType
first_type bytes =
    class_named (until 32 bytes).0 >>= λ class.
    leading_type_name (until 32 bytes).1 >>= λ x. Some ((class, x.0), x.1)

-- the type behind " > "
unfoldable pub second_type : Reader NamedType
second_type bytes = fixed_at (codes ">") bytes >>= λ rest. after 32 rest >>= first_type

-- behind a pair nothing stands, or a tab, the mark # and any remark
abbrev pub is_remark : List ℕ → Bool
is_remark bytes = (length bytes == 0) || bytes_eq (take 2 bytes) (9 ∷ 35 ∷ [])

-- the pair of this type and the one that follows
unfoldable pub pair_of : NamedType → List ℕ → Option (OrderLine NamedType)
pair_of a bytes =
    second_type bytes >>= λ x. if is_remark x.1 then Some (Pair a x.0) else None

-- what a line says
unfoldable pub order_line : List ℕ → Option (OrderLine NamedType)
order_line bytes =
    first_type bytes >>= λ x.
    if length x.1 == 0 then Some (Listed x.0) else pair_of x.0 x.1

-- ---- what the reader answers

-- the type that stands first is written so, and this follows it
pub record IsTypeText (read : Option (NamedType × List ℕ)) (text rest : List ℕ) : Type 0 where
  pub named : NamedType
  pub found : read ≡ Some (named, rest)
  pub written : text ≡ type_text named

abbrev pub ReadsType : Result (Bor (List ℕ) × Bor (List ℕ)) LineError
    → Option (NamedType × List ℕ) → Type 0
ReadsType (Ok x) read = IsTypeText read x.0.now x.1.now
ReadsType (Err e) read = Fails e read

-- these texts are how the types of the line are written
abbrev pub IsWritten : OrderLine (Bor (List ℕ)) → OrderLine NamedType → Type 0
IsWritten (Listed x) (Listed t) = x.now ≡ type_text t
IsWritten (Listed x) (Pair a b) = ⊥
IsWritten (Pair x y) (Listed t) = ⊥
IsWritten (Pair x y) (Pair a b) = (x.now ≡ type_text a) × (y.now ≡ type_text b)

pub record IsLineText (read : Option (OrderLine NamedType)) (line : OrderLine (Bor (List ℕ)))
    : Type 0 where
  pub said : OrderLine NamedType
  pub found : read ≡ Some said
  pub written : IsWritten line said

abbrev pub ReadsLine : Result (OrderLine (Bor (List ℕ))) LineError → Option (OrderLine NamedType)
    → Type 0
ReadsLine (Ok line) read = IsLineText read line
ReadsLine (Err e) read = Fails e read
