-- A text that begins with a line.
use Rattle.std.proofs.Common.{◌≡◌, ◌≢◌, ℕ, ◌+◌, false, eqb, List, [], ◌∷◌, ◌++◌, refl, ap, ◌∙◌}
use Rattle.std.proofs.Common.{arith}
use Rattle.std.proofs.lemmas.List.Elements.{All-head, All-tail}
use Rattle.std.proofs.lemmas.List.Sums.{sum_by-append}
use Rattle.wit_stream.specs.Text.{text, with_byte, text_of, HasNoFeed, feeds}
use Rattle.wit_stream.specs.Machine.{first_of}
use Rattle.std.proofs.lemmas.Bool.Decides.{nat_tests}

is_no_feed : (b : ℕ) → b ≢ 10 → eqb b 10 ≡ false
is_no_feed b n = grind (arith, nat_tests)

-- a line with its line feed is the first line
pub text_of-line : (line bytes : List ℕ) → HasNoFeed line
    → text_of (line ++ 10 ∷ bytes) ≡ text (line ∷ (text_of bytes).lines) (text_of bytes).tail
text_of-line [] bytes plain = refl
text_of-line (b ∷ line) bytes plain =
    rw (
      is_no_feed b (All-head (λ b. b ≢ 10) b line plain),
      text_of-line line bytes
          (All-tail (λ b. b ≢ 10) b line plain),
    ) refl

-- a line alone is the tail
pub text_of-tail : (line : List ℕ) → HasNoFeed line → text_of line ≡ text [] line
text_of-tail [] plain = refl
text_of-tail (b ∷ line) plain =
    rw (
      is_no_feed b (All-head (λ b. b ≢ 10) b line plain),
      text_of-tail line
          (All-tail (λ b. b ≢ 10) b line plain),
    ) refl

first_of-with_byte : (b : ℕ) (lines : List (List ℕ)) (tail : List ℕ)
    → first_of (with_byte b lines tail).lines (with_byte b lines tail).tail
    ≡ b ∷ first_of lines tail
first_of-with_byte b [] tail = refl
first_of-with_byte b (line ∷ lines) tail = refl

-- a line that goes on stays the beginning of the first line
pub first_of-line : (line bytes : List ℕ) → HasNoFeed line
    → first_of (text_of (line ++ bytes)).lines (text_of (line ++ bytes)).tail
    ≡ line ++ first_of (text_of bytes).lines (text_of bytes).tail
first_of-line [] bytes plain = refl
first_of-line (b ∷ line) bytes plain =
    let first =
    first_of-with_byte b (text_of (line ++ bytes)).lines (text_of (line ++ bytes)).tail in
    rw (is_no_feed b (All-head (λ b. b ≢ 10) b line plain))
    (first ∙ ap (λ l. b ∷ l) (first_of-line line bytes (All-tail (λ b. b ≢ 10) b line plain)))

pub feeds-append : (a b : List ℕ) → feeds (a ++ b) ≡ feeds a + feeds b
feeds-append a b = sum_by-append _ a b

pub feeds-line : (line : List ℕ) → HasNoFeed line → feeds line ≡ 0
feeds-line [] plain = refl
feeds-line (b ∷ line) plain =
    rw (is_no_feed b (All-head (λ b. b ≢ 10) b line plain))
    (feeds-line line (All-tail (λ b. b ≢ 10) b line plain))
