-- What is no text is no name.
use Rattle.std.proofs.Common.{◌≡◌, ℕ, ◌<◌, ◌≤◌, Bool, true, List, [], ◌∷◌, refl, arith}
use Rattle.std.specs.List.{list_all}
use Rattle.std.specs.Str.{IsAscii, IsUtf8}
use Rattle.std.proofs.lemmas.Bool.{and_parts, leb-true, false_from_ne_true}
use Rattle.std.proofs.lemmas.Str.{IsUtf8-from_ascii}
use Rattle.std.proofs.lemmas.Str.Ascii.{IsAscii-nil, IsAscii-cons}
use Rattle.wit_model.specs.Rules.Names.{is_name, is_name_byte, is_file_name, is_file_byte}
use Rattle.wit_c.specs.Texts.{name_in, file_name_in}

all_ascii : (p : ℕ → Bool) → ((b : ℕ) → p b ≡ true → b < 128) → (bytes : List ℕ)
    → list_all p bytes ≡ true → IsAscii bytes
all_ascii p small [] all = IsAscii-nil
all_ascii p small (b ∷ bytes) all = let h = and_parts (p b) (list_all p bytes) all in
    IsAscii-cons b bytes (small b h.0) (all_ascii p small bytes h.1)

small_byte : (b : ℕ) → b ≤ 0x7e → b < 128
small_byte b most = omega arith

small_name_byte : (b : ℕ) → is_name_byte b ≡ true → b < 128
small_name_byte b h = small_byte b (leb-true b 0x7e (and_parts _ _ (and_parts _ _ h).0).1)

small_file_byte : (b : ℕ) → is_file_byte b ≡ true → b < 128
small_file_byte b h = small_byte b (leb-true b 0x7e (and_parts _ _ (and_parts _ _ h).0).1)

pub no_name : (bytes : List ℕ) → (IsUtf8 bytes → ⊥) → [] ≡ name_in bytes
no_name bytes h =
    rw (false_from_ne_true (is_name bytes) (λ name.
    h (IsUtf8-from_ascii bytes (all_ascii is_name_byte small_name_byte bytes
    (and_parts _ _ name).1)))) refl

pub no_file_name : (bytes : List ℕ) → (IsUtf8 bytes → ⊥) → [] ≡ file_name_in bytes
no_file_name bytes h =
    rw (false_from_ne_true (is_file_name bytes) (λ name.
    h (IsUtf8-from_ascii bytes (all_ascii is_file_byte small_file_byte bytes
    (and_parts _ _ name).1)))) refl
