use Rattle.std.proofs.Common.{ap, sym, ◌∙◌}
use Rattle.std.proofs.lemmas.List.{take_rest}
use Rattle.wit_model.specs.declared.lines.Keyword.TheVariants.{Free}
use Rattle.wit_model.specs.Trace.Reading.{fields_of}
use Rattle.wit_grammar.proofs.Frequent.{is-free}
use Rattle.wit_grammar.proofs.beginnings.behind_free.Goals as goal

pub returns : goal.returns
returns c =
    is-free c.args.bytes.now _ (c.is_free.ensures c.if-not-is_free.false)
    ∙ ap (fields_of Free) (sym (take_rest c.args.bytes.now 4))
