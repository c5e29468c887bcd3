-- A number is read up to the next space or the end.
use Rattle.std.proofs.Common.{◌≡◌, ℕ, zero, suc, ◌+◌, ◌*◌, ◌<◌, ◌≤◌, Bool, true, false, ◌&&◌, ◌||◌}
use Rattle.std.proofs.Common.{not, List, [], ◌∷◌, length, get_or, take, drop, Some, None, eqb, cond}
use Rattle.std.proofs.Common.{refl, sym, ap, subst, ◌∙◌, ◌⊎◌, inl, inr, arith}
use Rattle.std.specs.Prelude.{◌==◌, slice_index}
use Rattle.std.specs.List.{list_all}
use Rattle.std.specs.Char.{is_ascii_digit, digit_value}
use Rattle.std.specs.Str.Parse.{digits_value}
use Rattle.std.proofs.lemmas.Bool.{eq-eqb, ne_eqb, lt-ltb, cases_eq}
use Rattle.std.proofs.lemmas.List.{get_or-take, take-take, length-take}
use Rattle.std.proofs.lemmas.List.Sums.{position_or_len_is}
use Rattle.wit_model.specs.Trace.Reading.{byte_place}
use Rattle.wit_fields.specs.Fields.{leading_number}
use Rattle.wit_fields.proofs.Digits.{Reads, no_number}

-- none of so many bytes is a space
abbrev pub IsPlain : List ℕ → ℕ → Type 0
IsPlain bytes i = (k : ℕ) → k < i → eqb (get_or bytes k 0) 32 ≡ false

pub plain_more : (bytes : List ℕ) (i : ℕ) → IsPlain bytes i → (get_or bytes i 0 ≡ 32 → ⊥)
    → IsPlain bytes (i + 1)
plain_more bytes i plain other = λ k lt. at k lt (cases_eq k i)
  where
    at : (k : ℕ) → k < i + 1 → (k ≡ i) ⊎ (k ≡ i → ⊥) → eqb (get_or bytes k 0) 32 ≡ false
    at k lt (inl same) =
        ne_eqb (get_or bytes k 0) 32 (λ e. other (ap (λ (j : ℕ). get_or bytes j 0) (sym same) ∙ e))
    at k lt (inr differs) = plain k (omega arith)

-- the first space stands behind bytes that are none
plain_before : (bytes : List ℕ) (i : ℕ) → IsPlain bytes i → i ≤ length bytes
    → i ≤ byte_place 32 bytes
plain_before bytes zero plain within = omega arith
plain_before [] (suc i) plain within = omega arith
plain_before (b ∷ bytes) (suc i) plain within =
    let more : i ≤ byte_place 32 bytes =
    plain_before bytes i (λ k lt. plain (suc k) (omega arith)) (omega arith) in
    rw (plain 0 (omega arith)) (omega arith)

-- a byte that is no digit, or with which the number is too large
pub leads_none : (bytes : List ℕ) (i n most : ℕ) → IsPlain bytes (i + 1) → Reads bytes i n
    → i < length bytes → (is_ascii_digit (get_or bytes i 0) ≡ true
    → most < n * 10 + digit_value (get_or bytes i 0)) → leading_number (most + 1) bytes ≡ None
leads_none bytes i n most plain r within large =
    let place = byte_place 32 bytes in
    let word = take place bytes in
    let behind : i + 1 ≤ place = plain_before bytes (i + 1) plain (omega arith) in
    let same : get_or word i 0 ≡ get_or bytes i 0 = get_or-take place bytes i 0 (omega arith) in
    let front : take i word ≡ take i bytes = take-take i place bytes (omega arith) in
    let long : i < length word = omega (arith, length-take place bytes) in
    let reads : Reads word i n =
    record {
      digits = ap (list_all is_ascii_digit) front ∙ r.digits;
      value = ap (digits_value 10) front ∙ r.value;
    } in
    rw (no_number word i n most reads long
    (λ digit. subst (λ (b : ℕ). most < n * 10 + digit_value b) (sym same)
    (large (ap is_ascii_digit (sym same) ∙ digit)))) refl

-- where there is no space any more, or one stands
pub ends_at : (bytes : List ℕ) (i : ℕ) → IsPlain bytes i → i ≤ length bytes
    → (i < length bytes → get_or bytes i 0 ≡ 32) → byte_place 32 bytes ≡ i
ends_at bytes i plain within space =
    position_or_len_is (λ b. eqb b 32) bytes i 0 within plain (λ lt. eq-eqb _ _ (space lt))

abbrev pub begins : List ℕ → Bool
begins word = not (length word == 0) && (not (slice_index word 0 == 48) || (length word == 1))

pub leads : (bytes : List ℕ) (i n most : ℕ) → byte_place 32 bytes ≡ i → Reads bytes i n → n ≤ most
    → (good : Bool) → begins (take i bytes) ≡ good
    → leading_number (most + 1) bytes ≡ cond good (Some (n, drop i bytes)) None
leads bytes i n most place r small true good =
    rw (place, r.digits, r.value, good, lt-ltb n (most + 1) (omega arith)) refl
leads bytes i n most place r small false good = rw (place, r.digits, good) refl
