-- How long the part of an origin is that tells of the request.
use Rattle.std.proofs.Common.{◌≡◌, ℕ, zero, suc, ◌<◌, ◌≤◌, true, false, cond, List, [], ◌∷◌, length, take, drop}
use Rattle.std.proofs.Common.{refl, sym, ap, ◌∙◌, arith}
use Rattle.wit_merge.specs.Texts.{before_while, begins_while}

pub before_while-at : (bytes : List ℕ) (n : ℕ) → n ≤ length bytes
    → ((k : ℕ) → k < n → begins_while (drop k bytes) ≡ false)
    → (n < length bytes → begins_while (drop n bytes) ≡ true)
    → take n bytes ≡ before_while bytes
before_while-at [] zero within none here = refl
before_while-at [] (suc n) within none here = absurd (omega (arith, within))
before_while-at (b ∷ bytes) zero within none here =
    sym (ap (λ x. cond x [] (b ∷ before_while bytes)) (here (omega arith)))
before_while-at (b ∷ bytes) (suc n) within none here =
    ap (λ (rest : List ℕ). b ∷ rest)
    (before_while-at bytes n (omega (arith, within)) (λ k lt. none (suc k) (omega (arith, lt)))
    (λ lt. here (omega (arith, lt))))
    ∙ sym (ap (λ x. cond x [] (b ∷ before_while bytes)) (none 0 (omega arith)))
