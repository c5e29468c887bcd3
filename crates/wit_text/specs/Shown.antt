-- What stands for a character of a text in a terminal.
use Rattle.std.specs.Prelude.{ℕ, ◌+◌, ◌==◌, ◌||◌, ◌&&◌, nat_lt, Bool, List, [], ◌∷◌, if◌then◌else◌}
use Rattle.std.specs.Char.{encode_utf8}

abbrev pub is_between : ℕ → ℕ → ℕ → Bool
is_between low high c = nat_lt c (high + 1) && (nat_lt low c || (low == c))

-- it is a control from 128 on, or turns the direction of a text
abbrev pub is_hidden : ℕ → Bool
is_hidden c =
    is_between 0x80 0x9f c || ((c == 0x61c) || (is_between 0x200e 0x200f c
    || (is_between 0x2028 0x202e c || is_between 0x2066 0x2069 c)))

abbrev pub shown_char : ℕ → List ℕ
shown_char c =
    if c == 9 then 9 ∷ []
    else if nat_lt c 32 then encode_utf8 (0x2400 + c)
    else if c == 0x7f then encode_utf8 0x2421
    else if is_hidden c then encode_utf8 0xfffd
    else encode_utf8 c
