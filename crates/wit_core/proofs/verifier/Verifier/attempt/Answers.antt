use Rattle.wit_core.proofs.Readying.{attempted_among, attempted_distinct}
use Rattle.wit_core.proofs.verifier.Verifier.attempt.Goals as goal

pub returns-clause-among : goal.returns-clause-among
returns-clause-among c =
    attempted_among c.args.self.now c.history-log.ensures.accepted c.history-log.ensures.legal
    c.args.seat.0 c.args.call c.make_or_prepare.new.self c.make_or_prepare.result
    c.make_or_prepare.ensures

pub returns-clause-distinct : goal.returns-clause-distinct
returns-clause-distinct c =
    attempted_distinct c.args.self.now c.history-log.ensures.accepted c.history-log.ensures.legal
    c.args.seat.0 c.args.call c.make_or_prepare.new.self c.make_or_prepare.result
    c.make_or_prepare.ensures
