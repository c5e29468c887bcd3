use Rattle.std.proofs.Common.{ap, sym, ◌∙◌}
use Rattle.std.proofs.lemmas.List.{take_rest}
use Rattle.wit_model.specs.declared.lines.Keyword.TheVariants.{Unlock}
use Rattle.wit_model.specs.Trace.Reading.{fields_of}
use Rattle.wit_grammar.proofs.Frequent.{is-unlock}
use Rattle.wit_grammar.proofs.beginnings.behind_unlock.Goals as goal

pub returns : goal.returns
returns c =
    is-unlock c.args.bytes.now _ (c.is_unlock.ensures c.if-not-is_unlock.false)
    ∙ ap (fields_of Unlock) (sym (take_rest c.args.bytes.now 6))
