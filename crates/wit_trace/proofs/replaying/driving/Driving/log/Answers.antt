use Rattle.wit_model.specs.Trace.LineCalls as model
use Rattle.wit_trace.proofs.DrivingLemmas.{passed}
use Rattle.wit_trace.proofs.replaying.driving.Driving.log.Goals as goal

pub returns-in_err-reply : goal.returns-in_err-reply
returns-in_err-reply g c =
    let m = c.args.self.now.remarks in
    passed (g.D.Driven.due c.args.self.now.driven m (model.Logs c.args.seat.0 c.args.call))
    (g.D.Driven.reading c.args.self.now.driven m) (g.D.Driven.reading c.make.new.self m)
    c.in_err-reply.field-0.0 c.from_residual.result (c.in_err-reply.ensures m)
    c.from_residual.ensures.1
