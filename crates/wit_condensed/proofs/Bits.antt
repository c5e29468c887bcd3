-- What setting a bit of a row does to its bits.
use Rattle.std.proofs.Common.{◌≡◌, ◌≢◌, ◌⊎◌, ℕ, ◌*◌, ◌/◌, ◌%◌, ◌^◌, ◌<◌, Bool, true, false, ◌||◌}
use Rattle.std.proofs.Common.{eqb, List, length, set, get_or, bit_or, w64, refl, ap, sym, ◌∙◌, subst}
use Rattle.std.proofs.Common.{inl, inr, arith}
use Rattle.std.specs.Int.{bit_at}
use Rattle.std.proofs.lemmas.Bool.Decides.{eqb_tells}
use Rattle.std.proofs.lemmas.List.{get_or-set_same, get_or-set_other}
use Rattle.std.proofs.lemmas.Nat.Bits.{bit_at_set_same, bit_at_set_other}
use Rattle.wit_condensed.specs.Rows.{has_bit}

pub or_none : (x : Bool) → (x || false) ≡ x
or_none true = refl
or_none false = refl

or_one : (x : Bool) → (x || true) ≡ true
or_one true = refl
or_one false = refl

module _ (row : List ℕ) (h : ℕ) (within : h / 64 < length row) where
  word : ℕ
  word = bit_or (get_or row (h / 64) 0) (1 * 2 ^ (h % 64) % 18446744073709551616)

  within_word : h % 64 < 64
  within_word = omega arith

  same : (a : ℕ) → h ≡ a → has_bit (set row (h / 64) word) a ≡ true
  unfolding word
  same a is =
      subst (λ k. has_bit (set row (h / 64) word) k ≡ true) is
      (ap (λ w. eqb (bit_at w (h % 64)) 1) (get_or-set_same row (h / 64) word 0 within)
      ∙ ap (λ d. eqb d 1) (bit_at_set_same w64 (get_or row (h / 64) 0) (h % 64) within_word))

  same_word : (a : ℕ) → (h ≡ a → ⊥) → a / 64 ≡ h / 64
      → has_bit (set row (h / 64) word) a ≡ has_bit row a
  unfolding word
  same_word a apart here =
      ap (λ i. eqb (bit_at (get_or (set row (h / 64) word) i 0) (a % 64)) 1) here
      ∙ (ap (λ w. eqb (bit_at w (a % 64)) 1) (get_or-set_same row (h / 64) word 0 within)
      ∙ (ap (λ d. eqb d 1) (bit_at_set_other w64 (get_or row (h / 64) 0) (h % 64) within_word
      (a % 64) (λ s. apart (omega (arith, s, here))))
      ∙ ap (λ i. eqb (bit_at (get_or row i 0) (a % 64)) 1) (sym here)))

  other_word : (a : ℕ) → (a / 64 ≡ h / 64 → ⊥) → has_bit (set row (h / 64) word) a ≡ has_bit row a
  other_word a apart =
      ap (λ w. eqb (bit_at w (a % 64)) 1) (get_or-set_other row (h / 64) (a / 64) word 0 apart)

  pub bit_added : (a : ℕ)
      → has_bit (set row (h / 64)
      (bit_or (get_or row (h / 64) 0) (1 * 2 ^ (h % 64) % 18446744073709551616))) a
      ≡ (has_bit row a || eqb h a)
  unfolding word
  bit_added a = go (eqb_tells h a) (eqb_tells (a / 64) (h / 64))
    where
      other : eqb h a ≡ false → has_bit (set row (h / 64) word) a ≡ has_bit row a
          → has_bit (set row (h / 64) word) a ≡ (has_bit row a || eqb h a)
      other isnt kept = kept ∙ (sym (or_none (has_bit row a)) ∙ ap (λ t. has_bit row a || t) (sym isnt))

      go : ((eqb h a ≡ true) × (h ≡ a)) ⊎ ((eqb h a ≡ false) × (h ≢ a))
          → ((eqb (a / 64) (h / 64) ≡ true) × (a / 64 ≡ h / 64))
          ⊎ ((eqb (a / 64) (h / 64) ≡ false) × (a / 64 ≢ h / 64))
          → has_bit (set row (h / 64) word) a ≡ (has_bit row a || eqb h a)
      go (inl e) f =
          same a e.1 ∙ (sym (or_one (has_bit row a)) ∙ ap (λ t. has_bit row a || t) (sym e.0))
      go (inr e) (inl f) = other e.0 (same_word a e.1 f.1)
      go (inr e) (inr f) = other e.0 (other_word a f.1)
