-- Reading the fields of a line from left to right: a value and the bytes after it. Each field
-- stands behind its own space.
use Rattle.std.specs.Prelude.{ℕ, zero, suc, ◌^◌, List, [], ◌∷◌, length, Option, Some, None, ◌==◌}
use Rattle.std.specs.Prelude.{if◌then◌else◌}
use Rattle.std.specs.Str.{bytes_eq}
use Rattle.wit_model.specs.declared.locks.Class.{Class}
use Rattle.wit_model.specs.Rules.Names.{is_name}
use Rattle.wit_model.specs.Trace.Words.{◌>>=◌, after, until, number_of, class_named, accepted}

abbrev pub Reader : Type 0 → Type 0
Reader A = List ℕ → Option (A × List ℕ)

-- a word, up to the next space or the end
unfoldable pub leading_word : Reader (List ℕ)
leading_word bytes = after 32 bytes >>= λ rest. Some (until 32 rest)

-- a field of one word
abbrev pub field_at : {A : Type 0} → (List ℕ → Option A) → Reader A
field_at read bytes = leading_word bytes >>= λ word. read word.0 >>= λ value. Some (value, word.1)

-- a fixed word, and what follows it
unfoldable pub fixed_at : List ℕ → List ℕ → Option (List ℕ)
fixed_at fixed bytes =
    leading_word bytes >>= λ word. if bytes_eq word.0 fixed then Some word.1 else None

-- a field behind a fixed word
abbrev pub behind : {A : Type 0} → List ℕ → Reader A → Reader A
behind fixed read bytes = fixed_at fixed bytes >>= read

-- a name between quotation marks
unfoldable pub leading_quoted : Reader (List ℕ)
leading_quoted bytes =
    after 32 bytes >>= λ opened. after 34 opened >>= λ inside.
    accepted is_name (until 34 inside).0 >>= λ name.
    after 34 (until 34 inside).1 >>= λ rest. Some (name, rest)

-- a last field that may be absent
abbrev pub optional : {A : Type 0} → Reader A → Reader (Option A)
optional read bytes =
    if length bytes == 0 then Some (None, bytes) else (read bytes >>= λ x. Some (Some x.0, x.1))

-- as many as there are up to the end of the line, and at most so many
abbrev pub repeated : {A : Type 0} → Reader A → ℕ → Reader (List A)
repeated read zero bytes = if length bytes == 0 then Some ([], bytes) else None
repeated read (suc most) bytes =
    if length bytes == 0 then Some ([], bytes)
    else (read bytes >>= λ x. repeated read most x.1 >>= λ xs. Some (x.0 ∷ xs.0, xs.1))

-- one, and then as many as there are
abbrev pub one_or_more : {A : Type 0} → Reader A → Reader (A × List A)
one_or_more read bytes =
    read bytes >>= λ x. repeated read (length x.1) x.1 >>= λ xs. Some ((x.0, xs.0), xs.1)

-- one field and those after it
abbrev pub both : {A B : Type 0} → Reader A → Reader B → Reader (A × B)
both read others bytes = read bytes >>= λ a. others a.1 >>= λ b. Some ((a.0, b.0), b.1)

-- fields after which nothing stands
abbrev pub whole : {A : Type 0} → Reader A → List ℕ → Option A
whole read bytes = read bytes >>= λ x. if length x.1 == 0 then Some x.0 else None

unfoldable pub leading_count : Reader ℕ
leading_count = field_at (number_of (2 ^ 32))

unfoldable pub leading_seat : Reader ℕ
leading_seat = field_at (number_of (2 ^ 16))

unfoldable pub leading_lock : Reader ℕ
leading_lock = field_at (number_of (2 ^ 32))

-- a type by its class and its name
unfoldable pub leading_type : Reader (Class × List ℕ)
leading_type = both (field_at class_named) leading_quoted

-- one type or more
unfoldable pub whole_list : List ℕ → Option (List (Class × List ℕ))
whole_list bytes = whole (one_or_more leading_type) bytes >>= λ x. Some (x.0 ∷ x.1)
