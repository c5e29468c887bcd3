use Rattle.std.proofs.Common.{IfSome, sym, subst}
use Rattle.wit_forecast.specs.Forecasts.{AreAnswers, IsAnswer}
use Rattle.wit_forecast.proofs.Told.{one-more}
use Rattle.wit_forecast.proofs.blocks.add.Goals as goal

pub returns-in_ok-push-in-Some : goal.returns-in_ok-push-in-Some
returns-in_ok-push-in-Some c =
    λ trace are is.
    subst (AreAnswers trace) (sym c.in_ok-push-in-Some.ensures.items)
    (one-more trace c.args.answers.now.items c.in-Some.answer are
    (subst (λ a. IfSome a (IsAnswer trace)) c.in-Some.is is))
