use Rattle.std.proofs.Common.{Ok, refl}
use Rattle.wit_trace.specs.Replaying.{progress}
use Rattle.wit_trace.proofs.DrivingLemmas.{shown_step}
use Rattle.wit_trace.proofs.replaying.ReplayingMachine.line.Goals as goal

pub returns-clause-step : goal.returns-clause-step
returns-clause-step c =
    shown_step {E = Unit {0}} c.args.self.now.view c.args.self.now c.mark.new.self
    (progress c.args.self.now) c.args.number c.args.bytes.now c.whole_line.new.text.items
    (Ok c.in_ok-step.step) refl (rw c.mark.ensures c.in_ok-step.ensures.read)
