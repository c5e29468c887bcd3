use Rattle.std.proofs.Common.{sym}
use Rattle.wit_model.specs.Trace.LineCalls.{call_of}
use Rattle.wit_grammar.specs.Lines.{as_line}
use Rattle.wit_trace.proofs.DrivingLemmas.{passed}
use Rattle.wit_trace.proofs.replaying.driving.Driving.enter_on_lock.Goals as goal

pub returns-in_err-file : goal.returns-in_err-file
returns-in_err-file g c =
    let m = c.args.self.now.remarks in
    rw c.in_err-file.ensures.remarks
    (passed (g.D.Driven.due c.args.self.now.driven m (call_of (as_line c.args.line)))
    (g.D.Driven.reading c.args.self.now.driven m)
    (g.D.Driven.reading c.number_of.new.self.driven m) c.in_err-file.field-0.0
    c.from_residual.result
    (c.in_err-file.ensures.numbers (call_of (as_line c.args.line)) (sym c.file_on_lock.ensures) m)
    c.from_residual.ensures.1)
