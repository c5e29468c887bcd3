use Rattle.wit_model.proofs.VerdictLaws.AheadLaws.{ahead-stays, ahead-trans, ahead-sound}
use Rattle.wit_model.proofs.laws.verdicts.law_ahead_is_order.Goals as goal

pub returns-clause-stays : goal.returns-clause-stays
returns-clause-stays c = ahead-stays

pub returns-clause-joins : goal.returns-clause-joins
returns-clause-joins c = ahead-trans

pub returns-clause-sound : goal.returns-clause-sound
returns-clause-sound c = ahead-sound
