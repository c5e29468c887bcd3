-- What stands for a character of a text in HTML.
use Rattle.std.specs.Prelude.{ℕ, ◌+◌, ◌/◌, ◌%◌, ◌==◌, ◌||◌, ◌&&◌, nat_lt, Bool, List, [], ◌∷◌, ◌++◌}
use Rattle.std.specs.Prelude.{codes, if◌then◌else◌}
use Rattle.std.specs.Char.{encode_utf8}

abbrev pub is_between : ℕ → ℕ → ℕ → Bool
is_between low high c = nat_lt c (high + 1) && (nat_lt low c || (low == c))

-- it turns the direction of a text, or takes no room
abbrev pub is_unseen : ℕ → Bool
is_unseen c =
    (c == 0xad) || ((c == 0x61c) || ((c == 0x180e) || (is_between 0x200b 0x200f c
    || (is_between 0x2028 0x202e c || (is_between 0x2060 0x206f c || ((c == 0xfeff)
    || is_between 0xe0000 0xe007f c))))))

-- it stands for no character
abbrev pub is_no_character : ℕ → Bool
is_no_character c =
    is_between 0x80 0x9f c || (is_between 0xfdd0 0xfdef c
    || ((c % 0x10000 == 0xfffe) || (c % 0x10000 == 0xffff)))

abbrev pub hex_digit : ℕ → ℕ
hex_digit d = if nat_lt d 10 then 48 + d else 55 + d

abbrev pub hex_pair : ℕ → List ℕ
hex_pair b = hex_digit (b / 16) ∷ hex_digit (b % 16) ∷ []

abbrev pub hex_front : ℕ → List ℕ
hex_front c = codes "[U+" ++ (if nat_lt c 0x10000 then [] else hex_digit (c / 0x10000) ∷ [])

-- a character by its number
abbrev pub hex_of : ℕ → List ℕ
hex_of c = hex_front c ++ (hex_pair (c / 256 % 256) ++ (hex_pair (c % 256) ++ 93 ∷ []))

-- that which no markup is made of
abbrev pub other_char : ℕ → List ℕ
other_char c =
    if nat_lt c 32 then encode_utf8 (0x2400 + c)
    else if is_no_character c then encode_utf8 0xfffd
    else if is_unseen c then hex_of c
    else encode_utf8 c

abbrev pub html_char : ℕ → List ℕ
html_char c =
    if c == 38 then codes "&amp;"
    else if c == 60 then codes "&lt;"
    else if c == 62 then codes "&gt;"
    else if c == 34 then codes "&quot;"
    else if c == 39 then codes "&#39;"
    else if c == 9 then 9 ∷ []
    else if c == 0x7f then encode_utf8 0x2421
    else other_char c
