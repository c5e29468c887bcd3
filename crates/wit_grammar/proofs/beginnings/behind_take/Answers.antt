use Rattle.std.proofs.Common.{ap, sym, ◌∙◌}
use Rattle.std.proofs.lemmas.List.{take_rest}
use Rattle.wit_model.specs.declared.lines.Keyword.TheVariants.{Take}
use Rattle.wit_model.specs.Trace.Reading.{fields_of}
use Rattle.wit_grammar.proofs.Frequent.{is-take}
use Rattle.wit_grammar.proofs.beginnings.behind_take.Goals as goal

pub returns : goal.returns
returns c =
    is-take c.args.bytes.now _ (c.is_take.ensures c.if-not-is_take.false)
    ∙ ap (fields_of Take) (sym (take_rest c.args.bytes.now 4))
