use Rattle.wit_model.specs.Trace.Moving.{with_feeds}
use Rattle.wit_forecast.specs.Owners.{lines_in}
use Rattle.wit_forecast.proofs.blocks.answers_of.Goals as goal

pub loop-report-preserved : goal.loop-report-preserved
loop-report-preserved c =
    let trace = with_feeds (lines_in c.args.lines.now) in
    c.in_ok-add-2.ensures trace
    (c.in_ok-add.ensures trace c.loop-report.invariant (c.in_ok-words_of_report.ensures trace))
    (c.schedule_in.ensures trace c.in_ok-outcome.ensures)
