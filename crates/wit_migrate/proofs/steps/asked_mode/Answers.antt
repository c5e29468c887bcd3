use Rattle.std.proofs.Common.{sym, ◌∙◌}
use Rattle.wit_model.specs.Rules.History.{pending}
use Rattle.wit_migrate.proofs.Recorded.{asked-is, mode-some, mode-none}
use Rattle.wit_migrate.proofs.steps.asked_mode.Goals as goal

pub returns-in-Some : goal.returns-in-Some
returns-in-Some c = λ seat.
    mode-some (pending c.args.seat.0 c.args.verifier.now.history) c.in-Some.field-0-0 c.in-Some.mode
    (sym c.in-Some.is ∙ asked-is c.args.verifier.now c.args.seat.0 seat c.pending.result
    c.pending.ensures)

pub returns-in-None : goal.returns-in-None
returns-in-None c = λ seat.
    mode-none (pending c.args.seat.0 c.args.verifier.now.history)
    (sym c.in-None.is ∙ asked-is c.args.verifier.now c.args.seat.0 seat c.pending.result
    c.pending.ensures)
