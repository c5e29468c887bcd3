use Rattle.wit_model.proofs.Histories.Exhaustion.{told_once}
use Rattle.wit_model.proofs.laws.rules.law_exhausted_once.Goals as goal

pub returns : goal.returns
returns c = told_once
