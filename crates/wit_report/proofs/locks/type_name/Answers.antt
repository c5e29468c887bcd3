use Rattle.std.proofs.Common.{◌∙◌, ap, ℕ, List}
use Rattle.std.specs.Borrow.{Bor}
use Rattle.wit_report.proofs.LockTypes.{name_as_made}
use Rattle.wit_report.proofs.locks.type_name.Goals as goal

pub returns-in-Some : goal.returns-in-Some
returns-in-Some c =
    let v = c.args.verifier.now in
    ap (λ (b : Bor (List ℕ)). b.now) c.unwrap_or.ensures
    ∙ name_as_made v.start v.files v.history c.args.lock.0 c.in-Some.number c.type_name.result _
    c.history-log.ensures.legal c.in-Some.ensures c.type_name.ensures
