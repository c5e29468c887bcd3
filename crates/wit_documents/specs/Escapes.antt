-- What stands for a character or a byte of a text where it would mean something else.
use Rattle.std.specs.Prelude.{ℕ, ◌+◌, ◌/◌, ◌%◌, ◌==◌, ◌||◌, ◌&&◌, nat_lt, Bool, List, [], ◌∷◌, ◌++◌}
use Rattle.std.specs.Prelude.{if◌then◌else◌}
use Rattle.std.specs.Char.{encode_utf8}

-- in a message of SARIF, where brackets make a link, braces a word to be filled in
abbrev pub plain_char : ℕ → List ℕ
plain_char c =
    if (c == 91) || ((c == 93) || (c == 92)) then 92 ∷ encode_utf8 c
    else if (c == 123) || (c == 125) then encode_utf8 c ++ encode_utf8 c
    else encode_utf8 c

abbrev pub is_between : ℕ → ℕ → ℕ → Bool
is_between low high b = nat_lt b (high + 1) && (nat_lt low b || (low == b))

-- in a path of a URI: letters, digits and -._~/
abbrev pub stands_as_itself : ℕ → Bool
stands_as_itself b =
    is_between 48 57 b || (is_between 65 90 b || (is_between 97 122 b
    || ((b == 45) || ((b == 46) || ((b == 95) || ((b == 126) || (b == 47)))))))

abbrev pub upper_digit : ℕ → ℕ
upper_digit d = if nat_lt d 10 then 48 + d else 55 + d

abbrev pub uri_byte : ℕ → List ℕ
uri_byte b =
    if stands_as_itself b then b ∷ [] else 37 ∷ upper_digit (b / 16) ∷ upper_digit (b % 16) ∷ []
