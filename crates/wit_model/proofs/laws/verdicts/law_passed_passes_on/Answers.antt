use Rattle.wit_model.proofs.VerdictLaws.Direct.{direct-judged}
use Rattle.wit_model.proofs.VerdictLaws.Passing.{passed-is_direct, passed-on}
use Rattle.wit_model.proofs.laws.verdicts.law_passed_passes_on.Goals as goal

pub returns-clause-direct : goal.returns-clause-direct
returns-clause-direct c = passed-is_direct

pub returns-clause-later : goal.returns-clause-later
returns-clause-later c = passed-on

pub returns-clause-judged : goal.returns-clause-judged
returns-clause-judged c = direct-judged
