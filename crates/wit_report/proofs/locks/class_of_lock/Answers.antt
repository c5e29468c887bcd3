use Rattle.std.proofs.Common.{◌∙◌}
use Rattle.wit_report.proofs.LockTypes.{class_as_made}
use Rattle.wit_report.proofs.locks.class_of_lock.Goals as goal

pub returns-in-Some : goal.returns-in-Some
returns-in-Some c =
    let v = c.args.verifier.now in
    c.unwrap_or.ensures
    ∙ class_as_made v.start v.files v.history c.args.lock.0 c.in-Some.number c.class_of.result
    c.history-log.ensures.legal c.in-Some.ensures c.class_of.ensures
