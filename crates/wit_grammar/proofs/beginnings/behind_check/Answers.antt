use Rattle.std.proofs.Common.{ap, sym, ◌∙◌}
use Rattle.std.proofs.lemmas.List.{take_rest}
use Rattle.wit_model.specs.declared.lines.Keyword.TheVariants.{Check}
use Rattle.wit_model.specs.Trace.Reading.{fields_of}
use Rattle.wit_grammar.proofs.Frequent.{is-check}
use Rattle.wit_grammar.proofs.beginnings.behind_check.Goals as goal

pub returns : goal.returns
returns c =
    is-check c.args.bytes.now _ (c.is_check.ensures c.if-not-is_check.false)
    ∙ ap (fields_of Check) (sym (take_rest c.args.bytes.now 5))
