-- A number of two or three digits.
use Rattle.std.proofs.Common.{◌≡◌, ℕ, ◌+◌, ◌*◌, ◌≤◌, true, false, eqb, List, [], ◌∷◌, Some, drop}
use Rattle.std.proofs.Common.{refl, sym, subst, arith}
use Rattle.std.specs.Char.{is_ascii_digit}
use Rattle.std.proofs.lemmas.Bool.{le-leb, lt-ltb, ne_eqb}
use Rattle.std.proofs.lemmas.Str.{digit_value_digit}
use Rattle.wit_model.specs.Trace.Fields.{field_at, leading_word}
use Rattle.wit_model.specs.Trace.Words.{number_of}
use Rattle.wit_fields.proofs.Digits.{Reads, reads_none, reads_more}

digit : (n : ℕ) → n ≤ 9 → is_ascii_digit (n + 48) ≡ true
digit n few = rw (le-leb 48 (n + 48) (omega arith), le-leb (n + 48) 57 (omega arith)) refl

other : (n : ℕ) → eqb (n + 48) 32 ≡ false
other n = ne_eqb (n + 48) 32 (λ e. absurd (omega (arith, e)))

leads : (n : ℕ) → 1 ≤ n → eqb (n + 48) 48 ≡ false
leads n some = ne_eqb (n + 48) 48 (λ e. absurd (omega (arith, e, some)))

module _ (most a b : ℕ) (some : 1 ≤ a) (few_a : a ≤ 9) (few_b : b ≤ 9)
    (within : a * 10 + b ≤ most) where
  abbrev two : List ℕ
  two = (a + 48) ∷ (b + 48) ∷ []

  two_reads : Reads two 2 (a * 10 + b)
  two_reads =
      reads_more two 1 a (a * 10 + b)
      (reads_more two 0 0 a (reads_none two) (omega arith) (digit a few_a)
      (omega (arith, digit_value_digit (a + 48) (omega arith))))
      (omega arith) (digit b few_b) (omega (arith, digit_value_digit (b + 48) (omega arith)))

  two_number : number_of (most + 1) two ≡ Some (a * 10 + b)
  two_number =
      rw (
        two_reads.digits,
        two_reads.value,
        lt-ltb (a * 10 + b) (most + 1) (omega arith),
        leads a some,
      ) refl

  pub last_two : (bytes : List ℕ) → bytes ≡ 32 ∷ (a + 48) ∷ (b + 48) ∷ []
      → field_at (number_of (most + 1)) bytes ≡ Some (a * 10 + b, drop 3 bytes)
  unfolding leading_word
  last_two bytes is =
      subst (λ xs. field_at (number_of (most + 1)) xs ≡ Some (a * 10 + b, drop 3 xs)) (sym is)
      (rw (other a, other b, two_number) refl)

  pub inner_two : (bytes tail : List ℕ) → bytes ≡ 32 ∷ (a + 48) ∷ (b + 48) ∷ 32 ∷ tail
      → field_at (number_of (most + 1)) bytes ≡ Some (a * 10 + b, drop 3 bytes)
  unfolding leading_word
  inner_two bytes tail is =
      subst (λ xs. field_at (number_of (most + 1)) xs ≡ Some (a * 10 + b, drop 3 xs)) (sym is)
      (rw (other a, other b, two_number) refl)

module _ (most a b c : ℕ) (some : 1 ≤ a) (few_a : a ≤ 9) (few_b : b ≤ 9) (few_c : c ≤ 9)
    (within : (a * 10 + b) * 10 + c ≤ most) where
  abbrev three : List ℕ
  three = (a + 48) ∷ (b + 48) ∷ (c + 48) ∷ []

  three_reads : Reads three 3 ((a * 10 + b) * 10 + c)
  three_reads =
      reads_more three 2 (a * 10 + b) ((a * 10 + b) * 10 + c)
      (reads_more three 1 a (a * 10 + b)
      (reads_more three 0 0 a (reads_none three) (omega arith) (digit a few_a)
      (omega (arith, digit_value_digit (a + 48) (omega arith))))
      (omega arith) (digit b few_b) (omega (arith, digit_value_digit (b + 48) (omega arith))))
      (omega arith) (digit c few_c) (omega (arith, digit_value_digit (c + 48) (omega arith)))

  three_number : number_of (most + 1) three ≡ Some ((a * 10 + b) * 10 + c)
  three_number =
      rw (
        three_reads.digits,
        three_reads.value,
        lt-ltb ((a * 10 + b) * 10 + c) (most + 1) (omega arith),
        leads a some,
      ) refl

  pub last_three : (bytes : List ℕ) → bytes ≡ 32 ∷ (a + 48) ∷ (b + 48) ∷ (c + 48) ∷ []
      → field_at (number_of (most + 1)) bytes ≡ Some ((a * 10 + b) * 10 + c, drop 4 bytes)
  unfolding leading_word
  last_three bytes is =
      subst (λ xs. field_at (number_of (most + 1)) xs ≡ Some ((a * 10 + b) * 10 + c, drop 4 xs))
      (sym is) (rw (other a, other b, other c, three_number) refl)

  pub inner_three : (bytes tail : List ℕ)
      → bytes ≡ 32 ∷ (a + 48) ∷ (b + 48) ∷ (c + 48) ∷ 32 ∷ tail
      → field_at (number_of (most + 1)) bytes ≡ Some ((a * 10 + b) * 10 + c, drop 4 bytes)
  unfolding leading_word
  inner_three bytes tail is =
      subst (λ xs. field_at (number_of (most + 1)) xs ≡ Some ((a * 10 + b) * 10 + c, drop 4 xs))
      (sym is) (rw (other a, other b, other c, three_number) refl)
