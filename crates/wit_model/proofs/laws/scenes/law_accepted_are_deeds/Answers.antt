use Rattle.wit_model.proofs.World.Calling.{call-deed}
use Rattle.wit_model.proofs.World.Opening.{opening-shows}
use Rattle.wit_model.proofs.World.Stepping.{step-deed}
use Rattle.wit_model.proofs.laws.scenes.law_accepted_are_deeds.Goals as goal

pub returns-clause-begins : goal.returns-clause-begins
returns-clause-begins c = opening-shows

pub returns-clause-steps : goal.returns-clause-steps
returns-clause-steps c =
    λ start files w s then t l step world shown. step-deed start files w s shown world t l then step

pub returns-clause-calls : goal.returns-clause-calls
returns-clause-calls c =
    λ start files w s t call r world shown. call-deed start files w s shown t call r world
