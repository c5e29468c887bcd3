-- What the beginning of a long line says of it.
use Rattle.std.proofs.Common.{◌≡◌, ℕ, ◌<◌, ◌≤◌, Bool, ◌||◌, ◌&&◌, true, false, eqb, List, length}
use Rattle.std.proofs.Common.{take, length-take, arith, codes, refl, sym, ap, ◌∙◌}
use Rattle.std.specs.Io.{StartsWith}
use Rattle.std.specs.Str.{bytes_eq}
use Rattle.std.proofs.lemmas.List.{take-take}
use Rattle.std.proofs.lemmas.Slice.Eq.{bytes_eq-Decides}
use Rattle.wit_model.specs.Trace.Output as output
use Rattle.wit_grammar.specs.declared.parse.TheConstants.{LONGEST}

-- the beginning of a long line decides whether it ends the prelude
pub begins_prelude : (bytes line : List ℕ) → LONGEST < length bytes → StartsWith line bytes
    → output.is_prelude line ≡ output.is_prelude bytes
begins_prelude bytes line long starts =
    ap (λ (w : List ℕ). bytes_eq w (codes "order ") || bytes_eq w (codes "bless "))
    (sym (take-take 6 (length bytes) line (omega arith)) ∙ ap (take 6) starts)

-- and no long line names a profile
pub no_profile : (n : ℕ) (line : List ℕ) → LONGEST < length line → output.is_profile n line ≡ false
no_profile n line long =
    rw (is_false (bytes_eq line (codes "profile all"))
    (λ is. omega (arith, ap length ((bytes_eq-Decides line (codes "profile all")).0 is))))
    (and_false (eqb n 2))
  where
    is_false : (b : Bool) → (b ≡ true → ⊥) → b ≡ false
    is_false true h = absurd (h refl)
    is_false false h = refl

    and_false : (b : Bool) → (b && false) ≡ false
    and_false true = refl
    and_false false = refl

pub starts-le : (bytes line : List ℕ) → StartsWith line bytes → length bytes ≤ length line
starts-le bytes line starts = let e : length (take (length bytes) line) ≡ length bytes =
    ap length starts in omega (arith, length-take {A = ℕ})
