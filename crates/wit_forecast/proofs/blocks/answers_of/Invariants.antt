use Rattle.wit_model.specs.Trace.Moving.{with_feeds}
use Rattle.wit_forecast.specs.Forecasts.{AreAnswers}
use Rattle.wit_forecast.specs.Owners.{lines_in}
use Rattle.wit_forecast.proofs.blocks.answers_of.Given as goal

abbrev pub invariant-loop-report : goal.invariant-loop-report
invariant-loop-report l = AreAnswers (with_feeds (lines_in l.fn.lines)) l.answers.items
