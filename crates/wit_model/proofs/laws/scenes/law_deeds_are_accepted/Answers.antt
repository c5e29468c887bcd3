use Rattle.std.proofs.Common.{IsOk, refl, sym, subst}
use Rattle.wit_model.proofs.World.Calling.{call-answered, deed-call}
use Rattle.wit_model.proofs.World.Stepping.{deed-step}
use Rattle.wit_model.proofs.laws.scenes.law_deeds_are_accepted.Goals as goal

pub returns-clause-steps : goal.returns-clause-steps
returns-clause-steps c = λ start files w s t l step world shown can known forth.
    subst IsOk (sym (deed-step start files w s shown world t l step can known forth)) refl

pub returns-clause-calls : goal.returns-clause-calls
returns-clause-calls c = λ start files w s t call r shown. deed-call start files w s shown t call r

pub returns-clause-answered : goal.returns-clause-answered
returns-clause-answered c = call-answered
