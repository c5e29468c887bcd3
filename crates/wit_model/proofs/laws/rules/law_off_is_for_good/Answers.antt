use Rattle.wit_model.proofs.Histories.Legal.{off-stays}
use Rattle.wit_model.proofs.laws.rules.law_off_is_for_good.Goals as goal

pub returns : goal.returns
returns c = λ start files e h legal off. off-stays start files h e legal.0 off
