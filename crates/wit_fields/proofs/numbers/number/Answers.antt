use Rattle.std.proofs.Common.{List, ℕ, ◌+◌, ◌*◌, Some, ap, sym, ◌∙◌}
use Rattle.std.proofs.lemmas.List.{take_rest}
use Rattle.wit_fields.proofs.FewDigits.{last_two, inner_two, last_three, inner_three}
use Rattle.wit_fields.proofs.OneDigit.{last, inner}
use Rattle.wit_fields.proofs.numbers.number.Goals as goal

pub returns-then-number-most-clause-value : goal.returns-then-number-most-clause-value
returns-then-number-most-clause-value c =
    let n = c.in-Some.number in
    last c.args.most n c.in-Some.ensures.0 c.if-number-most.true c.args.bytes.now
    c.in-Some.ensures.1
    ∙ ap (λ (rest : List ℕ). Some (n, rest)) (sym (take_rest c.args.bytes.now 2))

pub returns-then-number-most-2-clause-value : goal.returns-then-number-most-2-clause-value
returns-then-number-most-2-clause-value c =
    let n = c.in-Some-inner_digit.number in
    inner c.args.most n c.in-Some-inner_digit.ensures.0 c.if-number-most-2.true c.args.bytes.now
    _ c.in-Some-inner_digit.ensures.1
    ∙ ap (λ (rest : List ℕ). Some (n, rest)) (sym (take_rest c.args.bytes.now 2))

pub returns-then-number-most-3-clause-value : goal.returns-then-number-most-3-clause-value
returns-then-number-most-3-clause-value c =
    inner_two c.args.most c.in-Some-inner_two.tens c.in-Some-inner_two.ones
    c.in-Some-inner_two.ensures.0 c.in-Some-inner_two.ensures.1 c.in-Some-inner_two.ensures.2
    c.if-number-most-3.true c.args.bytes.now _ c.in-Some-inner_two.ensures.3
    ∙ ap (λ (rest : List ℕ). Some (
      c.in-Some-inner_two.tens * 10 + c.in-Some-inner_two.ones,
      rest,
    )) (sym (take_rest c.args.bytes.now 3))

pub returns-then-number-most-4-clause-value : goal.returns-then-number-most-4-clause-value
returns-then-number-most-4-clause-value c =
    inner_three c.args.most c.in-Some-inner_three.hundreds c.in-Some-inner_three.tens
    c.in-Some-inner_three.ones c.in-Some-inner_three.ensures.0 c.in-Some-inner_three.ensures.1
    c.in-Some-inner_three.ensures.2 c.in-Some-inner_three.ensures.3
    c.if-number-most-4.true c.args.bytes.now _ c.in-Some-inner_three.ensures.4
    ∙ ap (λ (rest : List ℕ). Some (
      (c.in-Some-inner_three.hundreds * 10 + c.in-Some-inner_three.tens) * 10
          + c.in-Some-inner_three.ones,
      rest,
    )) (sym (take_rest c.args.bytes.now 4))

pub returns-then-number-most-5-clause-value : goal.returns-then-number-most-5-clause-value
returns-then-number-most-5-clause-value c =
    last_two c.args.most c.in-Some-last_two.tens c.in-Some-last_two.ones
    c.in-Some-last_two.ensures.0 c.in-Some-last_two.ensures.1 c.in-Some-last_two.ensures.2
    c.if-number-most-5.true c.args.bytes.now c.in-Some-last_two.ensures.3
    ∙ ap (λ (rest : List ℕ). Some (
      c.in-Some-last_two.tens * 10 + c.in-Some-last_two.ones,
      rest,
    )) (sym (take_rest c.args.bytes.now 3))

pub returns-then-number-most-6-clause-value : goal.returns-then-number-most-6-clause-value
returns-then-number-most-6-clause-value c =
    last_three c.args.most c.in-Some-last_three.hundreds c.in-Some-last_three.tens
    c.in-Some-last_three.ones c.in-Some-last_three.ensures.0 c.in-Some-last_three.ensures.1
    c.in-Some-last_three.ensures.2 c.in-Some-last_three.ensures.3
    c.if-number-most-6.true c.args.bytes.now c.in-Some-last_three.ensures.4
    ∙ ap (λ (rest : List ℕ). Some (
      (c.in-Some-last_three.hundreds * 10 + c.in-Some-last_three.tens) * 10
          + c.in-Some-last_three.ones,
      rest,
    )) (sym (take_rest c.args.bytes.now 4))
