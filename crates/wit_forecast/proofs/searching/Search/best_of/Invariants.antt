use Rattle.wit_model.specs.Trace.Moving.{with_feeds}
use Rattle.wit_forecast.specs.Forecasts.{IsOutcome}
use Rattle.wit_forecast.specs.Owners.{lines_in}
use Rattle.wit_forecast.proofs.searching.Search.best_of.Given as goal

-- what is best so far came of the search
abbrev pub invariant-loop-circle : goal.invariant-loop-circle
invariant-loop-circle l = IsOutcome (with_feeds (lines_in l.self.source.lines.now)) l.best

abbrev pub invariant-loop-wanted : goal.invariant-loop-wanted
invariant-loop-wanted l = IsOutcome (with_feeds (lines_in l.self.source.lines.now)) l.best

abbrev pub invariant-loop-circle-2 : goal.invariant-loop-circle-2
invariant-loop-circle-2 l = IsOutcome (with_feeds (lines_in l.self.source.lines.now)) l.best
