use Rattle.std.proofs.Common.{subst}
use Rattle.wit_model.specs.Rules.State.{Story}
use Rattle.wit_model.specs.Trace.LineCalls as model
use Rattle.wit_model.specs.Trace.Output.{calls}
use Rattle.wit_lines.specs.Replays.{Remarks}
use Rattle.wit_trace.proofs.DrivingLemmas.{remarked}
use Rattle.wit_trace.proofs.replaying.driving.Driving.make.Goals as goal

pub returns-in-Asserts : goal.returns-in-Asserts
returns-in-Asserts g c =
    let d = c.args.self.now.driven in
    let call = model.Asserts c.in-Asserts.seat.0 c.in-Asserts.lock c.in-Asserts.asserted in
    rw c.in-Asserts.is
    (remarked (g.D.Driven.story d) (g.D.Driven.reading d) (g.D.Driven.due d) (g.D.Driven.waits d)
    (g.met.D.Driven.drives d) call c.args.self.now.remarks c.remark.new.remarks
    c.assertion-told.result c.remark.result tt
    (subst (λ (s : Story). Remarks s (λ n. calls s n call) c.assertion-told.result)
    c.verifier.ensures c.assertion-told.ensures)
    c.remark.ensures.same c.remark.ensures.counted c.remark.ensures.refused)

pub returns-in-Warns : goal.returns-in-Warns
returns-in-Warns g c =
    let d = c.args.self.now.driven in
    let call = model.Warns c.in-Warns.seat.0 c.in-Warns.lock c.in-Warns.flags in
    rw c.in-Warns.is
    (remarked (g.D.Driven.story d) (g.D.Driven.reading d) (g.D.Driven.due d) (g.D.Driven.waits d)
    (g.met.D.Driven.drives d) call c.args.self.now.remarks c.remark-in-Warns.new.remarks
    c.warning-told.result c.remark-in-Warns.result tt
    (subst (λ (s : Story). Remarks s (λ n. calls s n call) c.warning-told.result)
    c.verifier-in-Warns.ensures c.warning-told.ensures)
    c.remark-in-Warns.ensures.same c.remark-in-Warns.ensures.counted
    c.remark-in-Warns.ensures.refused)
