-- Pieces of a line.
use Rattle.std.specs.Prelude.{ℕ, ◌+◌, ◌-◌, Bool, List, Option, Some, None, drop, is_some, length, take}
use Rattle.std.specs.Prelude.{nat_eq, unwrap_or, if◌then◌else◌}
use Rattle.std.specs.Char.{is_ascii_whitespace}
use Rattle.std.specs.List.{prefix_len, starts_with, suffix_len}
use Rattle.std.specs.Option.{option_map}
use Rattle.memchr.specs.Find.{first_of, is_byte, last_of, matches, places}

-- the first place of a byte, and the last; the first place of a text
abbrev pub place_of : ℕ → List ℕ → Option ℕ
place_of byte bytes = first_of (places (is_byte byte) bytes)

abbrev pub last_place_of : ℕ → List ℕ → Option ℕ
last_place_of byte bytes = last_of (places (is_byte byte) bytes)

abbrev pub text_place : List ℕ → List ℕ → Option ℕ
text_place text bytes = first_of (matches bytes text 0)

-- what stands before the first place of a byte, and what stands from there on
abbrev pub before : ℕ → List ℕ → List ℕ
before byte bytes = take (unwrap_or (place_of byte bytes) (length bytes)) bytes

abbrev pub onward : ℕ → List ℕ → List ℕ
onward byte bytes = drop (unwrap_or (place_of byte bytes) (length bytes)) bytes

abbrev pub rest : List ℕ → List ℕ
rest bytes = drop 1 bytes

-- what stands behind the last place of a byte, and before it
abbrev pub behind_last : ℕ → List ℕ → Option (List ℕ)
behind_last byte bytes = option_map (λ n. rest (drop n bytes)) (last_place_of byte bytes)

abbrev pub before_last : ℕ → List ℕ → Option (List ℕ)
before_last byte bytes = option_map (λ n. take n bytes) (last_place_of byte bytes)

-- what stands behind the first place of a text, and whether it stands there
abbrev pub behind : List ℕ → List ℕ → Option (List ℕ)
behind text bytes = option_map (λ n. drop (n + length text) bytes) (text_place text bytes)

abbrev pub has : List ℕ → List ℕ → Bool
has text bytes = is_some (text_place text bytes)

-- whether a text stands first, and what stands behind it
abbrev pub begins : List ℕ → List ℕ → Bool
begins text bytes = starts_with nat_eq bytes text

abbrev pub behind_first : List ℕ → List ℕ → Option (List ℕ)
behind_first text bytes = if begins text bytes then Some (drop (length text) bytes) else None

abbrev pub without : List ℕ → List ℕ → List ℕ
without text bytes = unwrap_or (behind_first text bytes) bytes

-- without white space before it, and behind it
abbrev pub trimmed_start : List ℕ → List ℕ
trimmed_start bytes = drop (prefix_len is_ascii_whitespace bytes) bytes

abbrev pub trimmed_end : List ℕ → List ℕ
trimmed_end bytes = take (length bytes - suffix_len is_ascii_whitespace bytes) bytes

-- a place of a program, without the length of its function
abbrev pub place : List ℕ → List ℕ
place text = before 47 text
