use Rattle.std.proofs.Common.{ap, sym, ◌∙◌}
use Rattle.std.proofs.lemmas.List.{take_rest}
use Rattle.wit_model.specs.declared.lines.Keyword.TheVariants.{Plain}
use Rattle.wit_model.specs.declared.lines.Verb.TheVariants.{Note}
use Rattle.wit_model.specs.Trace.Reading.{fields_of}
use Rattle.wit_grammar.proofs.Frequent.{is-lock}
use Rattle.wit_grammar.proofs.beginnings.behind_lock.Goals as goal

pub returns : goal.returns
returns c =
    is-lock c.args.bytes.now _ (c.is_lock.ensures c.if-not-is_lock.false)
    ∙ ap (fields_of (Plain Note)) (sym (take_rest c.args.bytes.now 4))
