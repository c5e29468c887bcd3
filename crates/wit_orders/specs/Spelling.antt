-- How a line is written that says something.
use Rattle.std.specs.Prelude.{◌≡◌, ◌↔◌, ℕ, Bool, true, not, ◌&&◌, ◌==◌, List, ◌++◌, Some, codes}
use Rattle.std.specs.List.{list_all}
use Rattle.wit_recordings.specs.Recordings.{NamedType}
use Rattle.wit_orders.specs.declared.reading.OrderLine.{OrderLine}
use Rattle.wit_orders.specs.declared.reading.OrderLine.TheVariants.{Listed, Pair}
use Rattle.wit_orders.specs.Reading.{type_text, is_type_name, is_remark, order_line}

-- a type that can be written: its name has a byte at least, and no quotation mark
abbrev pub is_writable : NamedType → Bool
is_writable t = is_type_name t.1 && list_all (λ b. not (b == 34)) t.1

-- the bytes are a pair as it is written, with a remark or none
pub record IsPairText (bytes : List ℕ) (a b : NamedType) : Type 0 where
  pub remark : List ℕ
  pub written : bytes ≡ type_text a ++ (codes " > " ++ (type_text b ++ remark))
  pub remarks : is_remark remark ≡ true
  pub first : is_writable a ≡ true
  pub second : is_writable b ≡ true

-- the bytes spell what is said
abbrev pub Spells : List ℕ → OrderLine NamedType → Type 0
Spells bytes (Listed t) = (bytes ≡ type_text t) × (is_writable t ≡ true)
Spells bytes (Pair a b) = IsPairText bytes a b

-- reading finds what the bytes spell, and nothing else
abbrev pub ReadsSpellings : Type 0
ReadsSpellings = (bytes : List ℕ) (said : OrderLine NamedType)
    → (order_line bytes ≡ Some said) ↔ Spells bytes said
