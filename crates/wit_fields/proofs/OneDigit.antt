-- A number of one digit.
use Rattle.std.proofs.Common.{◌≡◌, ℕ, ◌+◌, ◌≤◌, Bool, true, false, not, ◌||◌, eqb, List, [], ◌∷◌}
use Rattle.std.proofs.Common.{Some, drop, refl, sym, subst, arith}
use Rattle.std.specs.Char.{is_ascii_digit}
use Rattle.std.proofs.lemmas.Bool.{le-leb, lt-ltb, ne_eqb}
use Rattle.std.proofs.lemmas.Str.{digit_value_digit}
use Rattle.wit_model.specs.Trace.Fields.{field_at, leading_word}
use Rattle.wit_model.specs.Trace.Words.{number_of}
use Rattle.wit_fields.proofs.Digits.{Reads, reads_none, reads_more}

or_true : (b : Bool) → (b || true) ≡ true
or_true true = refl
or_true false = refl

module _ (most n : ℕ) (few : n ≤ 9) (within : n ≤ most) where
  digit : is_ascii_digit (n + 48) ≡ true
  digit = rw (le-leb 48 (n + 48) (omega arith), le-leb (n + 48) 57 (omega arith)) refl

  reads : Reads ((n + 48) ∷ []) 1 n
  reads =
      reads_more ((n + 48) ∷ []) 0 0 n (reads_none ((n + 48) ∷ [])) (omega arith) digit
      (omega (arith, digit_value_digit (n + 48) (omega arith)))

  number : number_of (most + 1) ((n + 48) ∷ []) ≡ Some n
  number =
      rw (
        reads.digits,
        reads.value,
        lt-ltb n (most + 1) (omega arith),
        or_true (not (eqb (n + 48) 48)),
      ) refl

  other : eqb (n + 48) 32 ≡ false
  other = ne_eqb (n + 48) 32 (λ e. absurd (omega (arith, e)))

  pub last : (bytes : List ℕ) → bytes ≡ 32 ∷ (n + 48) ∷ []
      → field_at (number_of (most + 1)) bytes ≡ Some (n, drop 2 bytes)
  unfolding leading_word
  last bytes is =
      subst (λ xs. field_at (number_of (most + 1)) xs ≡ Some (n, drop 2 xs)) (sym is)
      (rw (other, number) refl)

  pub inner : (bytes tail : List ℕ) → bytes ≡ 32 ∷ (n + 48) ∷ 32 ∷ tail
      → field_at (number_of (most + 1)) bytes ≡ Some (n, drop 2 bytes)
  unfolding leading_word
  inner bytes tail is =
      subst (λ xs. field_at (number_of (most + 1)) xs ≡ Some (n, drop 2 xs)) (sym is)
      (rw (other, number) refl)
