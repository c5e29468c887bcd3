use Rattle.wit_model.specs.Trace.LineCalls as model
use Rattle.wit_trace.proofs.DrivingLemmas.{passed}
use Rattle.wit_trace.proofs.replaying.driving.Driving.step.Goals as goal

pub returns-in_err-step : goal.returns-in_err-step
returns-in_err-step g c =
    let m = c.args.self.now.remarks in
    passed (g.D.Driven.due c.args.self.now.driven m (model.Steps c.args.seat.0 c.args.lock c.args.step))
    (g.D.Driven.reading c.args.self.now.driven m) (g.D.Driven.reading c.step.new.self m)
    c.in_err-step.field-0.0 c.from_residual.result (c.in_err-step.ensures m)
    c.from_residual.ensures.1
