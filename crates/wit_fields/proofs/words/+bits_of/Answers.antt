use Rattle.std.proofs.Common.{◌≡◌, ℕ, List, [], ◌∷◌, Some, refl, sym, subst, arith}
use Rattle.std.proofs.lemmas.List.{nil_from_length}
use Rattle.wit_model.specs.Trace.Reading.{bits_of}
use Rattle.wit_fields.proofs.words.+bits_of.Goals as goal

-- no bit is set where there is no letter
none_set : (letters : List ℕ) → Some 0 ≡ bits_of letters []
none_set [] = refl
none_set (letter ∷ letters) = rw (sym (none_set letters)) refl

pub returns-in_default-empty-clause-value : goal.returns-in_default-empty-clause-value
returns-in_default-empty-clause-value t c =
    subst (λ (word : List ℕ). Some 0 ≡ bits_of c.args.letters.now word)
    (sym (nil_from_length c.args.word.now (omega (arith, c.in_default-empty.len_below))))
    (none_set c.args.letters.now)
