use Rattle.std.proofs.Common.{sym, ◌∙◌}
use Rattle.wit_model.proofs.Spelling.Codecs.{some_is}
use Rattle.wit_model.proofs.Spelling.Laws.{spelled_again}
use Rattle.wit_model.proofs.laws.rules.law_one_spelling.Goals as goal

pub returns : goal.returns
returns c = λ bytes a b p q. some_is a b (sym (spelled_again bytes a p) ∙ spelled_again bytes b q)
