use Rattle.std.proofs.Common.{sym, ◌∙◌, arith}
use Rattle.wit_world.proofs.Stepped.{ready}
use Rattle.wit_world.proofs.world.World.before_step.Goals as goal

pub returns-clause-ready : goal.returns-clause-ready
returns-clause-ready c =
    let count = c.entries-entries.ensures.count in
    let few = c.entries-entries.ensures.few in
    ready c.args.self.now c.entries-entries.ensures.world c.args.seat.0 c.args.lock.0
    (omega (arith, count, few)) c.args.step
    (sym c.is_known.ensures ∙ c.if-not-is_known.false)
    (sym c.may_step.ensures ∙ c.if-not-may_step.false)
    (sym c.is_free.ensures ∙ c.if-not-is_free.false)
