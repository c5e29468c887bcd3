use Rattle.std.proofs.Common.{List, ℕ, Some, ap, sym, ◌∙◌}
use Rattle.std.proofs.lemmas.List.{take_rest}
use Rattle.wit_model.specs.declared.locks.Mode.TheVariants.{Exclusive}
use Rattle.wit_fields.proofs.FrequentFields.{is-last-x, is-inner-x}
use Rattle.wit_fields.proofs.words.mode.Goals as goal

pub returns-then-is_last_x : goal.returns-then-is_last_x
returns-then-is_last_x c =
    is-last-x c.args.bytes.now (c.is_last_x.ensures c.if-is_last_x.true)
    ∙ ap (λ (rest : List ℕ). Some (Exclusive, rest)) (sym (take_rest c.args.bytes.now 2))

pub returns-then-is_inner_x : goal.returns-then-is_inner_x
returns-then-is_inner_x c =
    is-inner-x c.args.bytes.now _ (c.is_inner_x.ensures c.if-is_inner_x.true)
    ∙ ap (λ (rest : List ℕ). Some (Exclusive, rest)) (sym (take_rest c.args.bytes.now 2))
