use Rattle.std.proofs.Common.{subst}
use Rattle.wit_model.specs.Rules.Step.{IsLegal}
use Rattle.wit_model.proofs.VerdictLaws.Passing.{legal-before}
use Rattle.wit_model.proofs.laws.histories.law_beginnings_legal.Goals as goal

pub returns : goal.returns
returns c = λ start files h whole began legal.
    legal-before start files began.0 h (subst (λ x. IsLegal start files x) began.1 legal)
