-- Each word of a square has a place of its own.
use Rattle.std.proofs.Common.{◌≡◌, ◌⊎◌, ℕ, ◌+◌, ◌-◌, ◌*◌, ◌<◌, ◌≤◌, List, set, ap, sym, subst, inl}
use Rattle.std.proofs.Common.{inr, arith}
use Rattle.std.proofs.lemmas.Bool.{cases_order}
use Rattle.std.proofs.lemmas.Nat.{mul-add-lt}
use Rattle.std.proofs.lemmas.List.{get_or-set_same, get_or-set_other}
use Rattle.wit_matrix.specs.Squares.{width, word_place, word_at, IsSquare}
use Rattle.wit_model.specs.Rules.Numbers.{IsNumber}

-- an earlier row stands before a later one
place_below : (w a i b j : ℕ) → 1 ≤ a → i < w → a < b → (a - 1) * w + i < (b - 1) * w + j
place_below w a i b j some within lt =
    let l : (a - 1) * w + i < w * (b - 1) = mul-add-lt (a - 1) w i (b - 1) (omega arith) within in
    omega (arith, l)

place_apart : (w a i b j : ℕ) → 1 ≤ a → 1 ≤ b → i < w → j < w → (a - 1) * w + i ≡ (b - 1) * w + j
    → (a ≡ b) × (i ≡ j)
place_apart w a i b j some some_too within within_too same = go (cases_order a b)
  where
    go : (a ≡ b) ⊎ ((a < b) ⊎ (b < a)) → (a ≡ b) × (i ≡ j)
    go (inl e) =
        (e, (let r : (a - 1) * w ≡ (b - 1) * w = ap (λ x. (x - 1) * w) e in omega (arith, r, same)))
    go (inr (inl lt)) =
        absurd (let l = place_below w a i b j some within lt in omega (arith, l, same))
    go (inr (inr lt)) =
        absurd (let l = place_below w b j a i some_too within_too lt in omega (arith, l, same))

within_rows : (w n a i : ℕ) → 1 ≤ a → a ≤ n → i < w → (a - 1) * w + i < n * w
within_rows w n a i some most within =
    let l : (a - 1) * w + i < w * n = mul-add-lt (a - 1) w i n (omega arith) within in
    omega (arith, l)

pub place_within : (n a i : ℕ) → IsNumber n a → i < width n → word_place n a i < n * width n
place_within n a i at within = within_rows (width n) n a i at.0 at.1 within

-- a word that is set leaves the others
pub word_set_same : (n a i x : ℕ) (words : List ℕ) → IsSquare n words → IsNumber n a → i < width n
    → word_at n (set words (word_place n a i) x) a i ≡ x
word_set_same n a i x words square at within =
    get_or-set_same words (word_place n a i) x 0
    (subst (λ m. word_place n a i < m) (sym square) (place_within n a i at within))

pub word_set_other : (n a i b j x : ℕ) (words : List ℕ) → IsNumber n a → IsNumber n b → i < width n
    → j < width n → ((a ≡ b) × (i ≡ j) → ⊥)
    → word_at n (set words (word_place n a i) x) b j ≡ word_at n words b j
word_set_other n a i b j x words at bt within within_too apart =
    get_or-set_other words (word_place n a i) (word_place n b j) x 0
    (λ same. apart (place_apart (width n) a i b j at.0 bt.0 within within_too (sym same)))
