-- Numbers and letters of a line are printed and read alike.
use Rattle.std.proofs.Common.{◌≡◌, ℕ, zero, suc, ◌+◌, ◌*◌, ◌/◌, ◌%◌, ◌^◌, ◌<◌, ◌≤◌, Bool, true}
use Rattle.std.proofs.Common.{false, cond, not, ◌&&◌, ◌||◌, eqb, ltb, List, [], ◌∷◌, length, get_or}
use Rattle.std.proofs.Common.{Some, None, refl, sym, ap, pow-suc, subst, ◌∙◌, arith, rules, codes}
use Rattle.std.proofs.Common.{inl, inr, ◌⊎◌}
use Rattle.std.specs.List.{list_all}
use Rattle.std.specs.Char.{is_ascii_digit}
use Rattle.std.specs.Fmt.{decimal}
use Rattle.std.specs.Str.{bytes_eq}
use Rattle.std.specs.Str.Parse.{digits_value}
use Rattle.std.proofs.lemmas.Bool.{and_parts, and_from, or_cases, eqb-true, eq-eqb, ne_eqb}
use Rattle.std.proofs.lemmas.Bool.{eqb-false, ltb-true, lt-ltb, not-true, not_from_false, or_left}
use Rattle.std.proofs.lemmas.Bool.{both_ways, cases_eq}
use Rattle.std.proofs.lemmas.Fmt.{decimal-digits_value, digits_value-decimal, digits_decimal}
use Rattle.std.proofs.lemmas.Fmt.{decimal_nonempty, first_decimal, decimal_digit}
use Rattle.std.proofs.lemmas.List.{nil_from_length}
use Rattle.std.proofs.lemmas.Nat.{pow_pos}
use Rattle.std.proofs.lemmas.Option.{cond_some}
use Rattle.std.proofs.lemmas.Slice.Eq.{bytes_eq-Decides}
use Rattle.std.proofs.lemmas.Str.Parse.{IsNumeralModel, numerals_by_value}
use Rattle.wit_model.specs.Trace.Reading.{◌>>=◌, is_numeral, number_of, bits_of, flags_of}
use Rattle.wit_model.specs.Trace.Spelling.{chosen_letters, flags_text}
use Rattle.wit_model.proofs.Spelling.Codecs.{IsWord, Lacks, Lacks-all, bind_some, some_is, chosen}

-- ---- numbers

pub own : IsNumeralModel (λ ds. list_all is_ascii_digit ds ≡ true) (digits_value 10)
own = numerals_by_value _ (search rules)

-- no digit is another byte
not_digit : (byte : ℕ) → is_ascii_digit byte ≡ false → (b : ℕ) → is_ascii_digit b ≡ true
    → eqb b byte ≡ false
not_digit byte other b digit =
    ne_eqb b byte (λ same. absurd
    (false_is_true (sym other ∙ ap is_ascii_digit (sym same) ∙ digit)))
  where
    false_is_true : false ≡ true → ⊥
    false_is_true e = cc

pub decimal_lacks : (byte : ℕ) → is_ascii_digit byte ≡ false → (n : ℕ) → n < 2 ^ 64
    → Lacks byte (decimal n)
decimal_lacks byte other n small =
    Lacks-all is_ascii_digit byte (not_digit byte other) (decimal n) (digits_decimal own n small)

numeral_decimal : (n : ℕ) → n < 2 ^ 64 → is_numeral (decimal n) ≡ true
numeral_decimal n small =
    and_from _ _ (and_from _ _ (digits_decimal own n small)
    (not_from_false _ (ne_eqb (length (decimal n)) 0
    (λ e. absurd (omega (arith, decimal_nonempty n small)))))) (lead n small)
  where
    lead : (n : ℕ) → n < 2 ^ 64 → (not (eqb (get_or (decimal n) 0 0) 48)
        || eqb (length (decimal n)) 1) ≡ true
    lead zero small = rw (decimal_digit 0 (omega arith)) refl
    lead (suc n) small =
        or_left _ _ (not_from_false _
        (ne_eqb (get_or (decimal (suc n)) 0 0) 48
        (λ e. absurd (omega (arith, first_decimal (suc n) (omega arith) small)))))

pub number_word : (bound : ℕ) → bound ≤ 2 ^ 64 → IsWord decimal (number_of bound) (λ n. n < bound)
number_word bound least = record {
  plain = λ n fits. decimal_lacks 32 refl n (omega arith);
  again = λ n fits.
      let small : n < 2 ^ 64 = omega arith in
      let value : digits_value 10 (decimal n) ≡ n = digits_value-decimal own n small in
      rw (numeral_decimal n small, value, lt-ltb n bound fits) refl;
  takes = λ word n e.
      let h =
      cond_some (is_numeral word && ltb (digits_value 10 word) bound)
      (digits_value 10 word) n e in
      let p = and_parts (is_numeral word) (ltb (digits_value 10 word) bound) h.0 in
      let below : digits_value 10 word < bound = ltb-true _ _ p.1 in
      let d =
      and_parts (list_all is_ascii_digit word && not (eqb (length word) 0))
      (not (eqb (get_or word 0 0) 48) || eqb (length word) 1) p.0 in
      let g = and_parts (list_all is_ascii_digit word) (not (eqb (length word) 0)) d.0 in
      let same : decimal (digits_value 10 word) ≡ word =
      decimal-digits_value own word g.0 (longer word g.1) (leads word d.1) (omega arith) in
      (sym same ∙ ap decimal h.1, subst (λ (k : ℕ). k < bound) h.1 below);
}
  where
    longer : (word : List ℕ) → not (eqb (length word) 0) ≡ true → 0 < length word
    longer [] e = absurd cc
    longer (b ∷ word) e = omega arith

    leads : (word : List ℕ) → (not (eqb (get_or word 0 0) 48) || eqb (length word) 1) ≡ true
        → get_or word 0 0 ≡ 48 → length word ≡ 1
    leads word e first =
        elim (or_cases _ _ e) [
          | inl other ↦ absurd (both_ways _ (not-true _ other) (eq-eqb _ _ first))
          | inr one ↦ eqb-true _ _ one
        ]

-- ---- letters

-- no letter comes twice
abbrev pub HaveNoTwin : List ℕ → Type 0
HaveNoTwin [] = Unit {0}
HaveNoTwin (letter ∷ letters) = Lacks letter letters × HaveNoTwin letters

either_lacks : (odd : Bool) (byte letter : ℕ) (word : List ℕ) → eqb letter byte ≡ false
    → Lacks byte word → Lacks byte (cond odd (letter ∷ word) word)
either_lacks true byte letter word other lacks = (other, lacks)
either_lacks false byte letter word other lacks = lacks

chosen_lacks : (byte : ℕ) (letters : List ℕ) (bits : ℕ) → Lacks byte letters
    → Lacks byte (chosen_letters letters bits)
chosen_lacks byte [] bits lacks = tt
chosen_lacks byte (letter ∷ letters) bits lacks =
    either_lacks (eqb (bits % 2) 1) byte letter (chosen_letters letters (bits / 2)) lacks.0
    (chosen_lacks byte letters (bits / 2) lacks.1)

-- a letter that the word doesn't begin with is passed
letter_passed : (letter : ℕ) (letters word : List ℕ) → Lacks letter word
    → bits_of (letter ∷ letters) word ≡ (bits_of letters word >>= λ bits. Some (2 * bits))
letter_passed letter letters [] lacks = refl
letter_passed letter letters (b ∷ word) lacks = rw (lacks.0) refl

half-lt : (letters : List ℕ) (bits : ℕ) → bits < 2 ^ suc (length letters)
    → bits / 2 < 2 ^ length letters
half-lt letters bits small = let e : 2 ^ suc (length letters) ≡ 2 ^ length letters * 2 =
    pow-suc 2 (length letters) in omega arith

bits_step : (letter : ℕ) (letters : List ℕ) (bits : ℕ) → Lacks letter letters
    → bits_of letters (chosen_letters letters (bits / 2)) ≡ Some (bits / 2)
    → bits_of (letter ∷ letters) (chosen_letters (letter ∷ letters) bits) ≡ Some bits
bits_step letter letters bits lacks halves = either (cases_eq (bits % 2) 1)
  where
    either : (bits % 2 ≡ 1) ⊎ (bits % 2 ≡ 1 → ⊥)
        → bits_of (letter ∷ letters) (chosen_letters (letter ∷ letters) bits) ≡ Some bits
    either (inl odd) =
        rw (eq-eqb (bits % 2) 1 odd, eq-eqb letter letter refl, halves) (ap Some (omega arith))
    either (inr even) =
        rw (ne_eqb (bits % 2) 1 even)
        (letter_passed letter letters (chosen_letters letters (bits / 2))
        (chosen_lacks letter letters (bits / 2) lacks) ∙ rw halves (ap Some (omega arith)))

bits_again : (letters : List ℕ) (bits : ℕ) → HaveNoTwin letters → bits < 2 ^ length letters
    → bits_of letters (chosen_letters letters bits) ≡ Some bits
bits_again [] bits distinct small = let none : 0 ≡ bits = omega arith in ap Some none
bits_again (letter ∷ letters) bits distinct small =
    bits_step letter letters bits distinct.0
    (bits_again letters (bits / 2) distinct.1 (half-lt letters bits small))

-- the word is the letters chosen by the bits
abbrev IsChosen : List ℕ → List ℕ → ℕ → Type 0
IsChosen letters word bits = (word ≡ chosen_letters letters bits) × (bits < 2 ^ length letters)

even_taken : (letter : ℕ) (letters word : List ℕ) (half bits : ℕ) → 2 * half ≡ bits
    → IsChosen letters word half → IsChosen (letter ∷ letters) word bits
even_taken letter letters word half bits twice h =
    let e : 2 ^ suc (length letters) ≡ 2 ^ length letters * 2 = pow-suc 2 (length letters) in
    let same : half ≡ bits / 2 = omega arith in (
      rw (ne_eqb (bits % 2) 1 (λ odd. absurd (omega arith)))
          (h.0 ∙ ap (chosen_letters letters) same),
      omega (arith, h.1),
    )

odd_taken : (letter : ℕ) (letters word : List ℕ) (half bits : ℕ) → 2 * half + 1 ≡ bits
    → IsChosen letters word half → IsChosen (letter ∷ letters) (letter ∷ word) bits
odd_taken letter letters word half bits twice h =
    let e : 2 ^ suc (length letters) ≡ 2 ^ length letters * 2 = pow-suc 2 (length letters) in
    let same : half ≡ bits / 2 = omega arith in (
      rw (eq-eqb (bits % 2) 1 (omega arith))
          (ap (λ (w : List ℕ). letter ∷ w) (h.0 ∙ ap (chosen_letters letters) same)),
      omega (arith, h.1),
    )

bits_take : (letters word : List ℕ) (bits : ℕ) → bits_of letters word ≡ Some bits
    → IsChosen letters word bits
bits_take [] word bits e =
    let h = cond_some (eqb (length word) 0) 0 bits e in
    (nil_from_length word (eqb-true _ _ h.0), omega (arith, h.1))
bits_take (letter ∷ letters) [] bits e =
    let b = bind_some (bits_of letters []) (λ half. Some (2 * half)) bits e in
    even_taken letter letters [] b.0 bits (some_is (2 * b.0) bits b.2)
    (bits_take letters [] b.0 b.1)
bits_take (letter ∷ letters) (x ∷ word) bits e =
    chosen (IsChosen (letter ∷ letters) (x ∷ word) bits) (eqb x letter)
    (bits_of letters word >>= λ half. Some (2 * half + 1))
    (bits_of letters (x ∷ word) >>= λ half. Some (2 * half)) bits
    (λ is some.
    let b = bind_some (bits_of letters word) (λ half. Some (2 * half + 1)) bits some in
    let first : letter ≡ x = sym (eqb-true x letter is) in
    subst (λ (y : ℕ). IsChosen (letter ∷ letters) (y ∷ word) bits) first
    (odd_taken letter letters word b.0 bits (some_is (2 * b.0 + 1) bits b.2)
    (bits_take letters word b.0 b.1)))
    (λ other some.
    let b = bind_some (bits_of letters (x ∷ word)) (λ half. Some (2 * half)) bits some in
    even_taken letter letters (x ∷ word) b.0 bits (some_is (2 * b.0) bits b.2)
    (bits_take letters (x ∷ word) b.0 b.1)) e

-- no bit is set where there is no letter
bits_nil : (letters : List ℕ) → bits_of letters [] ≡ Some 0
bits_nil [] = refl
bits_nil (letter ∷ letters) = rw (bits_nil letters) refl

chosen_none : (letters : List ℕ) → chosen_letters letters 0 ≡ []
chosen_none [] = refl
chosen_none (letter ∷ letters) = chosen_none letters

-- letters that no other word is mistaken for
pub record AreLetters (letters : List ℕ) : Type 0 where
  pub distinct : HaveNoTwin letters
  pub plain : Lacks 32 letters
  pub no_dash : Lacks 45 letters

not_dash : (word : List ℕ) → Lacks 45 word → bytes_eq word (codes "-") ≡ false
not_dash [] lacks = refl
not_dash (b ∷ word) lacks = rw (lacks.0) refl

pub flags_word : (letters : List ℕ) → AreLetters letters
    → IsWord (flags_text letters) (flags_of letters) (λ bits. bits < 2 ^ length letters)
unfolding flags_of
flags_word letters good = record {
  plain = λ bits fits. either_plain (eqb bits 0) bits;
  again = λ bits fits. either_again bits fits (cases_eq bits 0);
  takes = λ word bits e.
      chosen ((word ≡ flags_text letters bits) × (bits < 2 ^ length letters))
      (bytes_eq word (codes "-")) (Some 0)
      (cond (eqb (length word) 0) None (bits_of letters word)) bits
      (λ is some. subst (λ (n : ℕ). (word ≡ flags_text letters n) × (n < 2 ^ length letters))
      (some_is 0 bits some) (
        (bytes_eq-Decides word (codes "-")).0 is,
        pow_pos (length letters),
      ))
      (λ other some. letters_taken word bits some) e;
}
  where
    either_plain : (none : Bool) (bits : ℕ)
        → Lacks 32 (cond none (codes "-") (chosen_letters letters bits))
    either_plain true bits = (refl, tt)
    either_plain false bits = chosen_lacks 32 letters bits good.plain

    longer : (bits : ℕ) → bits < 2 ^ length letters → (bits ≡ 0 → ⊥)
        → eqb (length (chosen_letters letters bits)) 0 ≡ false
    longer bits fits some =
        ne_eqb (length (chosen_letters letters bits)) 0
        (λ short. absurd (some (some_is bits 0
        (sym (bits_again letters bits good.distinct fits)
        ∙ ap (bits_of letters) (nil_from_length _ short) ∙ bits_nil letters))))

    either_again : (bits : ℕ) → bits < 2 ^ length letters → (bits ≡ 0) ⊎ (bits ≡ 0 → ⊥)
        → flags_of letters (flags_text letters bits) ≡ Some bits
    either_again bits fits (inl none) = rw none refl
    either_again bits fits (inr some) =
        rw (
          ne_eqb bits 0 some,
          not_dash (chosen_letters letters bits)
              (chosen_lacks 45 letters bits good.no_dash),
          longer bits fits some,
        )
        (bits_again letters bits good.distinct fits)

    letters_taken : (word : List ℕ) (bits : ℕ)
        → cond (eqb (length word) 0) None (bits_of letters word) ≡ Some bits
        → (word ≡ flags_text letters bits) × (bits < 2 ^ length letters)
    letters_taken word bits e =
        chosen ((word ≡ flags_text letters bits) × (bits < 2 ^ length letters))
        (eqb (length word) 0) None (bits_of letters word) bits
        (λ is none. absurd cc)
        (λ longer some.
        let t = bits_take letters word bits some in (
          rw (ne_eqb bits 0 (λ none. absurd
              (eqb-false (length word) 0 longer
              (ap length (t.0 ∙ ap (chosen_letters letters) none ∙ chosen_none letters))))) t.0,
          t.1,
        )) e

-- ---- places
