-- What may be told whatever the trace is.
use Rattle.std.proofs.Common.{ℕ, ◌++◌, ◌∷◌, [], List, Result, Ok, Err, IfOk}
use Rattle.std.specs.Global.{Vec}
use Rattle.wit_model.specs.declared.lines.Cause.{Cause}
use Rattle.wit_model.specs.Trace.Moving.{with_feeds}
use Rattle.wit_stream.specs.Machine.{BreaksAt}
use Rattle.wit_stream.specs.declared.summary.Summary.{Summary}
use Rattle.wit_forecast.specs.Forecasts.{AreAnswers, Forecasts, IsAnswer}
use Rattle.wit_forecast.specs.Owners.{lines_in}
use Rattle.wit_forecast.specs.Forecasting.{allowed}
use Rattle.wit_forecast.specs.declared.answers.Answer.{Answer}
use Rattle.wit_forecast.specs.declared.forecasting.Forecasting.{Forecasting}

pub told-broken : {E : Type 0} (m : Forecasting) (n : ℕ) (cause : Cause) (beginning : List ℕ)
    (answer : Result (Vec ℕ × Summary) E)
    → ((trace : List ℕ) → IfOk answer (λ r. Forecasts trace r.0.items r.1))
    → IfOk answer (λ r. (lines : List (List ℕ)) (tail : List ℕ)
    → BreaksAt cause beginning lines tail → allowed m n lines tail r.0.items r.1)
told-broken m n cause beginning (Err e) told = tt
told-broken m n cause beginning (Ok r) told =
    λ lines tail breaks. told (with_feeds (lines_in m.lines.items ++ lines) ++ tail)

pub one-more : (trace : List ℕ) (answers : List Answer) (answer : Answer)
    → AreAnswers trace answers → IsAnswer trace answer → AreAnswers trace (answers ++ answer ∷ [])
one-more trace [] answer are is = (is, tt)
one-more trace (first ∷ others) answer are is = (are.0, one-more trace others answer are.1 is)
