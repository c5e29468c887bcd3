-- Who keeps a lock has fewer shares of it than are recorded.
use Rattle.std.proofs.Common.{◌≡◌, ℕ, ◌<◌, Bool, true, false, not, ◌||◌, nat_lt, refl, ap, sym}
use Rattle.std.proofs.Common.{◌∙◌, inl, inr, arith}
use Rattle.std.proofs.lemmas.Bool.{cases_Bool, lt-ltb, ltb-false, true≢false}

pub either-false : (a b : Bool) → (not a || b) ≡ false → (a ≡ true) × (b ≡ false)
either-false true b is = (refl, is)
either-false false b is = absurd (true≢false is)

-- who has recorded more than none and keeps a lock has fewer shares
pub keeps-fewer : (s n : ℕ) → 0 < n → (not (nat_lt 0 s) || nat_lt s n) ≡ true → nat_lt s n ≡ true
keeps-fewer s n some is =
    elim (cases_Bool (nat_lt 0 s)) [
      | inl had ↦ ap (λ b. not b || nat_lt s n) (sym had) ∙ is
      | inr none ↦ let few = ltb-false 0 s none in lt-ltb s n (omega (arith, few, some))
    ]
