use Rattle.wit_model.proofs.VerdictLaws.Told.{duplicate-one}
use Rattle.wit_model.proofs.VerdictLaws.ToldOnce.{reported-once}
use Rattle.wit_model.proofs.laws.verdicts.law_pairs_reported_once.Goals as goal

pub returns-clause-once : goal.returns-clause-once
returns-clause-once c = reported-once

pub returns-clause-duplicate : goal.returns-clause-duplicate
returns-clause-duplicate c = λ start files e h d legal is. duplicate-one start files e h legal d is
