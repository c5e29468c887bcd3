-- The characters of a text, one by one.
use Rattle.std.proofs.Common.{◌≡◌, ℕ, List, [], ◌∷◌, ◌++◌, length, sym, ap, ◌∙◌, IsUtf8, append_assoc, append-nil, arith}
use Rattle.std.proofs.lemmas.Str.{chars-nil, chars_past_char}
use Rattle.std.specs.Char.{encode_utf8}
use Rattle.std.specs.List.{flat_map}
use Rattle.std.specs.Str.{chars}

chars_empty : (bs : List ℕ) → length bs ≡ 0 → chars bs ≡ []
chars_empty [] h = chars-nil
chars_empty (b ∷ bs) h = absurd (omega arith)

-- where nothing of the text is left all of it was written
pub whole_text : (f : ℕ → List ℕ) (written all bs : List ℕ)
    → written ++ flat_map f (chars bs) ≡ all → length bs ≡ 0 → written ≡ all
whole_text f written all bs e h =
    sym (append-nil written) ∙ ap (λ cs. written ++ flat_map f cs) (sym (chars_empty bs h)) ∙ e

-- what stands for a character was written, and the rest is left
pub next_char : (f : ℕ → List ℕ) (written all bs rest : List ℕ) (c : ℕ)
    → written ++ flat_map f (chars bs) ≡ all → IsUtf8 bs → bs ≡ encode_utf8 c ++ rest
    → (written ++ f c) ++ flat_map f (chars rest) ≡ all
next_char f written all bs rest c e u parts =
    append_assoc written (f c) (flat_map f (chars rest))
    ∙ ap (λ cs. written ++ flat_map f cs) (sym (chars_past_char bs rest c u parts)) ∙ e
