-- A text is its lines, each with its line feed, and its tail.
use Rattle.std.proofs.Common.{◌≡◌, ℕ, Bool, true, false, eqb, List, [], ◌∷◌, ◌++◌, refl, ap, ap₂, sym}
use Rattle.std.proofs.Common.{◌∙◌, append_assoc}
use Rattle.std.proofs.lemmas.Bool.{eqb-true}
use Rattle.wit_model.specs.Trace.Moving.{with_feeds}
use Rattle.wit_stream.specs.Text.{LinesAndTail, with_byte, text_of}

abbrev pub joined_of : LinesAndTail → List ℕ
joined_of t = with_feeds t.lines ++ t.tail

with_byte-joined : (b : ℕ) (lines : List (List ℕ)) (tail : List ℕ)
    → joined_of (with_byte b lines tail) ≡ b ∷ (with_feeds lines ++ tail)
with_byte-joined b [] tail = refl
with_byte-joined b (line ∷ lines) tail = refl

byte-joined : (b : ℕ) (bytes : List ℕ) (is : Bool) → eqb b 10 ≡ is
    → joined_of (text_of bytes) ≡ bytes → joined_of (text_of (b ∷ bytes)) ≡ b ∷ bytes
byte-joined b bytes true same rest = rw (same) (ap₂ (λ x y. x ∷ y) (sym (eqb-true b 10 same)) rest)
byte-joined b bytes false other rest =
    rw (other)
    (with_byte-joined b (text_of bytes).lines (text_of bytes).tail ∙ ap (λ l. b ∷ l) rest)

pub joined : (bytes : List ℕ) → joined_of (text_of bytes) ≡ bytes
joined [] = refl
joined (b ∷ bytes) = byte-joined b bytes (eqb b 10) refl (joined bytes)

-- the lines of one list, and then those of another
pub feeds-both : (first second : List (List ℕ))
    → with_feeds (first ++ second) ≡ with_feeds first ++ with_feeds second
feeds-both [] second = refl
feeds-both (line ∷ first) second =
    ap (λ text. line ++ 10 ∷ text) (feeds-both first second)
    ∙ sym (append_assoc line (10 ∷ with_feeds first) (with_feeds second))
