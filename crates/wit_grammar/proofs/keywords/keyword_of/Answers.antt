use Rattle.std.proofs.Common.{sym, ap, ◌∙◌}
use Rattle.wit_model.specs.Trace.Reading.{keyword_named}
use Rattle.wit_model.proofs.Spelling.Named.{keyword_again}
use Rattle.wit_grammar.proofs.keywords.keyword_of.Goals as goal

pub returns-in-Some : goal.returns-in-Some
returns-in-Some c = sym (ap keyword_named c.in-Some.ensures.some ∙ keyword_again c.in-Some.keyword)
