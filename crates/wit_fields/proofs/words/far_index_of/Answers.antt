use Rattle.std.proofs.Common.{◌≡◌, Bool, true, false, length, eqb, refl, sym, arith}
use Rattle.std.proofs.lemmas.List.Sums.{position_or_len_is}
use Rattle.wit_fields.proofs.words.far_index_of.Goals as goal

is_false : (b : Bool) → (b ≡ true → ⊥) → b ≡ false
is_false true h = absurd (h refl)
is_false false h = refl

pub returns-in-Some-clause-place : goal.returns-in-Some-clause-place
returns-in-Some-clause-place c =
    let found = c.in-Some.ensures in
    sym (position_or_len_is (λ b. eqb b c.args.byte) c.args.bytes.now c.in-Some.place 0
    (omega (arith, found.0.high)) (λ k lt. is_false _ (found.0.before k (omega arith) lt))
    (λ _. found.1))

pub returns-in-None-clause-place : goal.returns-in-None-clause-place
returns-in-None-clause-place c =
    let n = length c.args.bytes.now in
    sym (position_or_len_is (λ b. eqb b c.args.byte) c.args.bytes.now n 0 (omega arith)
    (λ k lt. is_false _ (c.in-None.ensures k (omega arith) lt)) (λ lt. absurd (omega arith)))
