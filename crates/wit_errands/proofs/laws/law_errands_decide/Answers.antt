use Rattle.wit_errands.proofs.Decided.{errands-decide}
use Rattle.wit_errands.proofs.laws.law_errands_decide.Goals as goal

pub returns : goal.returns
returns c = λ start files first deeds threads settled quiet distinct.
    errands-decide start files first deeds threads settled quiet distinct
