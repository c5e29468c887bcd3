use Rattle.std.proofs.Common.{◌++◌, ◌∷◌, [], ◌+◌, ◌%◌, ◌/◌, arith, ap, sym, ◌∙◌, append_assoc}
use Rattle.std.specs.Fmt.{decimal}
use Rattle.std.proofs.lemmas.Fmt.{decimal_step}
use Rattle.wit_import.proofs.blocks.+put_digits.Goals as goal

pub returns : goal.returns
returns t c =
    let n = c.args.number in
    c.in_ok-push-2.ensures.items
    ∙ ap (λ l. l ++ ((48 + n % 10) ∷ [])) c.in_ok-put_digits.ensures
    ∙ append_assoc c.args.text.now.items (decimal (n / 10)) ((48 + n % 10) ∷ [])
    ∙ ap (λ l. c.args.text.now.items ++ l) (sym (decimal_step n (omega arith) (omega arith)))
