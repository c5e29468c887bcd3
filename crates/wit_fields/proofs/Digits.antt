-- A number is read digit by digit, as long as it stays below the bound.
use Rattle.std.proofs.Common.{◌≡◌, ℕ, ◌+◌, ◌*◌, ◌<◌, ◌≤◌, Bool, true, false, ◌&&◌, cond, List}
use Rattle.std.proofs.Common.{length, get_or, take, Option, Some, None, refl, sym, ap, ◌∙◌, arith}
use Rattle.std.specs.List.{list_all}
use Rattle.std.specs.Char.{is_ascii_digit, digit_value}
use Rattle.std.specs.Str.Parse.{digits_value}
use Rattle.std.proofs.lemmas.Bool.{le-ltb}
use Rattle.std.proofs.lemmas.Int.Digits.{digits_value_more}
use Rattle.std.proofs.lemmas.List.Folds.{list_all_at, list_all_more}
use Rattle.std.proofs.lemmas.Str.Parse.{digits_value-take-le}
use Rattle.wit_model.specs.Trace.Reading.{is_numeral, number_of}

-- so many bytes of the word are digits, and write this number
pub record Reads (word : List ℕ) (i n : ℕ) : Type 0 where
  pub digits : list_all is_ascii_digit (take i word) ≡ true
  pub value : digits_value 10 (take i word) ≡ n

pub reads_none : (word : List ℕ) → Reads word 0 0
reads_none word = record { digits = refl; value = refl }

-- one more digit
pub reads_more : (word : List ℕ) (i n m : ℕ) → Reads word i n → i < length word
    → is_ascii_digit (get_or word i 0) ≡ true → m ≡ n * 10 + digit_value (get_or word i 0)
    → Reads word (i + 1) m
reads_more word i n m r within digit e = record {
  digits = list_all_more is_ascii_digit word i 0 within ∙ rw (r.digits, digit) refl;
  value =
      digits_value_more 10 word i within
      ∙ ap (λ (k : ℕ). k * 10 + digit_value (get_or word i 0)) r.value ∙ sym e;
}

none_and : (b : Bool) (x : Option ℕ) → cond (b && false) x None ≡ None
none_and true x = refl
none_and false x = refl

-- a byte that is no digit, or with which the number is too large
pub no_number : (word : List ℕ) (i n most : ℕ) → Reads word i n → i < length word
    → (is_ascii_digit (get_or word i 0) ≡ true → most < n * 10 + digit_value (get_or word i 0))
    → number_of (most + 1) word ≡ None
no_number word i n most r within large = at (is_ascii_digit (get_or word i 0)) refl
  where
    at : (digit : Bool) → is_ascii_digit (get_or word i 0) ≡ digit
        → number_of (most + 1) word ≡ None
    at false e = rw (list_all_at is_ascii_digit word i 0 within e) refl
    at true e =
        let value : digits_value 10 (take (i + 1) word) ≡ n * 10 + digit_value (get_or word i 0) =
        digits_value_more 10 word i within
        ∙ ap (λ (k : ℕ). k * 10 + digit_value (get_or word i 0)) r.value in
        let least : digits_value 10 (take (i + 1) word) ≤ digits_value 10 word =
        digits_value-take-le 10 word (i + 1) (omega arith) in
        let more : most < n * 10 + digit_value (get_or word i 0) = large e in
        rw (le-ltb (digits_value 10 word) (most + 1) (omega arith))
        (none_and (is_numeral word) (Some (digits_value 10 word)))
