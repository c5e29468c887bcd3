use Rattle.wit_model.specs.declared.calls.Call.TheVariants.{Check, DefineOrder}
use Rattle.wit_core.proofs.Readying.{teaches_among, teaches_distinct}
use Rattle.wit_core.proofs.verifier.Verifier.prepare.Goals as goal

pub returns-in-Check-clause-among : goal.returns-in-Check-clause-among
returns-in-Check-clause-among c =
    rw c.in-Check.is
    (teaches_among c.args.self.now c.history-log.ensures.accepted
    c.history-log.ensures.legal c.args.seat.0
    (Check c.in-Check.request) c.ready_check.new.self c.ready_check.result
    c.ready_check.ensures.answer)

pub returns-in-Check-clause-distinct : goal.returns-in-Check-clause-distinct
returns-in-Check-clause-distinct c =
    rw c.in-Check.is
    (teaches_distinct c.args.self.now c.history-log.ensures.accepted
    c.history-log.ensures.legal c.args.seat.0
    (Check c.in-Check.request) c.ready_check.new.self c.ready_check.result
    c.ready_check.ensures.answer)

pub returns-in-DefineOrder-clause-among : goal.returns-in-DefineOrder-clause-among
returns-in-DefineOrder-clause-among c =
    rw c.in-DefineOrder.is
    (teaches_among c.args.self.now c.history-log.ensures.accepted
    c.history-log.ensures.legal c.args.seat.0
    (DefineOrder c.in-DefineOrder.first c.in-DefineOrder.second) c.ready_define.new.self
    c.ready_define.result c.ready_define.ensures)

pub returns-in-DefineOrder-clause-distinct : goal.returns-in-DefineOrder-clause-distinct
returns-in-DefineOrder-clause-distinct c =
    rw c.in-DefineOrder.is
    (teaches_distinct c.args.self.now c.history-log.ensures.accepted
    c.history-log.ensures.legal c.args.seat.0
    (DefineOrder c.in-DefineOrder.first c.in-DefineOrder.second) c.ready_define.new.self
    c.ready_define.result c.ready_define.ensures)
