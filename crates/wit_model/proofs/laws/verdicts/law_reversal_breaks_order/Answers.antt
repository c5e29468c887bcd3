use Rattle.wit_model.proofs.VerdictLaws.Told.{reversal-held, reversal-order}
use Rattle.wit_model.proofs.laws.verdicts.law_reversal_breaks_order.Goals as goal

pub returns-clause-held : goal.returns-clause-held
returns-clause-held c = λ start files e h x legal is. reversal-held start files e h legal x is

pub returns-clause-order : goal.returns-clause-order
returns-clause-order c =
    λ start files e h x legal is plain. reversal-order start files e h legal x is plain
