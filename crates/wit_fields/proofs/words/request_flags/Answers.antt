use Rattle.std.proofs.Common.{List, ℕ, Some, ap, sym, ◌∙◌}
use Rattle.std.proofs.lemmas.List.{take_rest}
use Rattle.wit_fields.proofs.FrequentFields.{is-inner-n}
use Rattle.wit_fields.proofs.words.request_flags.Goals as goal

pub returns-then-is_inner_n : goal.returns-then-is_inner_n
returns-then-is_inner_n c =
    is-inner-n c.args.bytes.now _ (c.is_inner_n.ensures c.if-is_inner_n.true)
    ∙ ap (λ (rest : List ℕ). Some (1, rest)) (sym (take_rest c.args.bytes.now 2))
