use Rattle.std.proofs.Common.{sym, ap, ◌∙◌, ◌+◌}
use Rattle.wit_migrate.proofs.Recorded.{num-some, num-none}
use Rattle.wit_migrate.proofs.steps.acquisitions.Goals as goal

pub returns-in-Some : goal.returns-in-Some
returns-in-Some c = λ seat.
    ap (λ n. n + 1) c.from.ensures
    ∙ num-some c.args.verifier.now c.args.seat.0 seat c.args.lock.0 c.history-entries.ensures.legal
    c.in-Some.again (sym c.recorded.ensures ∙ c.in-Some.is)

pub returns-in-None : goal.returns-in-None
returns-in-None c = λ seat.
    num-none c.args.verifier.now c.args.seat.0 seat c.args.lock.0 c.history-entries.ensures.legal
    (sym c.recorded.ensures ∙ c.in-None.is)
