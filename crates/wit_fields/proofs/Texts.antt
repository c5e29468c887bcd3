-- Names are text.
use Rattle.std.proofs.Common.{◌≡◌, ℕ, ◌<◌, ◌≤◌, Bool, true, List, [], ◌∷◌, None, refl, arith}
use Rattle.std.specs.List.{list_all}
use Rattle.std.specs.Str.{IsAscii, IsUtf8}
use Rattle.std.proofs.lemmas.Bool.{and_parts, leb-true, false_from_ne_true}
use Rattle.std.proofs.lemmas.Str.{IsUtf8-from_ascii}
use Rattle.std.proofs.lemmas.Str.Ascii.{IsAscii-nil, IsAscii-cons}
use Rattle.wit_model.specs.Rules.Names.{is_name, is_name_byte, is_file_name, is_file_byte}
use Rattle.wit_model.specs.Trace.Reading.{accepted}

ascii_from_all : (p : ℕ → Bool) → ((b : ℕ) → p b ≡ true → b < 128) → (bytes : List ℕ)
    → list_all p bytes ≡ true → IsAscii bytes
ascii_from_all p small [] all = IsAscii-nil
ascii_from_all p small (b ∷ bytes) all = let h = and_parts (p b) (list_all p bytes) all in
    IsAscii-cons b bytes (small b h.0) (ascii_from_all p small bytes h.1)

byte_ascii : (b : ℕ) → b ≤ 0x7e → b < 128
byte_ascii b most = omega arith

name_byte_ascii : (b : ℕ) → is_name_byte b ≡ true → b < 128
name_byte_ascii b h = byte_ascii b (leb-true b 0x7e (and_parts _ _ (and_parts _ _ h).0).1)

file_byte_ascii : (b : ℕ) → is_file_byte b ≡ true → b < 128
file_byte_ascii b h = byte_ascii b (leb-true b 0x7e (and_parts _ _ (and_parts _ _ h).0).1)

none_accepted : (test : List ℕ → Bool) (bytes : List ℕ) → (test bytes ≡ true → ⊥)
    → accepted test bytes ≡ None
none_accepted test bytes fails = rw (false_from_ne_true (test bytes) fails) refl

-- what is no text is no name
pub no_name : (bytes : List ℕ) → (IsUtf8 bytes → ⊥) → accepted is_name bytes ≡ None
no_name bytes h =
    none_accepted is_name bytes (λ name.
    h (IsUtf8-from_ascii bytes (ascii_from_all is_name_byte name_byte_ascii bytes
    (and_parts _ _ name).1)))

pub no_file_name : (bytes : List ℕ) → (IsUtf8 bytes → ⊥) → accepted is_file_name bytes ≡ None
no_file_name bytes h =
    none_accepted is_file_name bytes
    (λ name. h (IsUtf8-from_ascii bytes
    (ascii_from_all is_file_byte file_byte_ascii bytes (and_parts _ _ name).1)))

-- a file name is text
pub file_utf8 : (bytes : List ℕ) → is_file_name bytes ≡ true → IsUtf8 bytes
file_utf8 bytes name =
    IsUtf8-from_ascii bytes
    (ascii_from_all is_file_byte file_byte_ascii bytes (and_parts _ _ name).1)
