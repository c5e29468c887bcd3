-- What stands for a character of a text within quotes of dot.
use Rattle.std.specs.Prelude.{ℕ, ◌==◌, ◌||◌, nat_lt, List, [], ◌∷◌, codes, if◌then◌else◌}
use Rattle.std.specs.Char.{encode_utf8}

abbrev pub quoted_char : ℕ → List ℕ
quoted_char c =
    if c == 92 then 92 ∷ 92 ∷ []
    else if c == 34 then 92 ∷ 34 ∷ []
    else if c == 38 then codes "&amp;"
    else if nat_lt c 32 || (c == 0x7f) then encode_utf8 0xfffd
    else encode_utf8 c
