-- Words that were read one after another stand at their places.
use Rattle.std.proofs.Common.{◌≡◌, ℕ, suc, ◌+◌, List, [], ◌∷◌, ◌++◌, length, refl, ap, subst, arith}
use Rattle.std.specs.Global.{Vec}
use Rattle.witness.specs.CommandLine.{bytes_of}
use Rattle.witness.specs.Words.{StandFrom}

pub counted : (words : List (Vec ℕ)) → length (bytes_of words) ≡ length words
counted [] = refl
counted (word ∷ words) = ap suc (counted words)

-- the next one stands behind those that are there
pub pushed : (is_word : ℕ → List ℕ → Type 0) (place : ℕ) (words : List (Vec ℕ)) (word : Vec ℕ)
    → StandFrom is_word place (bytes_of words) → is_word (place + length words) word.items
    → StandFrom is_word place (bytes_of (words ++ word ∷ []))
pushed is_word place [] word stand here =
    let e : place + 0 ≡ place = omega arith in
    (subst (λ n. is_word n word.items) e here, tt)
pushed is_word place (first ∷ words) word stand here =
    let e : place + suc (length words) ≡ place + 1 + length words = omega arith in (
      stand.0,
      pushed is_word (place + 1) words word stand.1 (subst (λ n. is_word n word.items) e here),
    )
