use Rattle.wit_forecast.proofs.Runs.{run-cut, run-whole}
use Rattle.wit_forecast.proofs.forecasting.forecast.Goals as goal

pub returns-clause-ok : goal.returns-clause-ok
returns-clause-ok g c =
    run-whole (record { lines = c.new.result; trace = c.new-2.result }) c.new.ensures.items _ _ _ _
    c.run.ensures.ok

pub returns-clause-err : goal.returns-clause-err
returns-clause-err g c =
    run-cut (record { lines = c.new.result; trace = c.new-2.result }) c.new.ensures.items _ _ _ _
    c.run.ensures.err
