use Rattle.std.proofs.Common.{◌∙◌, arith}
use Rattle.wit_model.specs.Rules.State.{state_of, typed_locks}
use Rattle.wit_model.specs.Rules.Warnings.{warned}
use Rattle.wit_report.proofs.Warned.{warn-none}
use Rattle.wit_report.proofs.warnings.warn_text.Goals as goal

pub returns-then-warned-eq0-clause-ok : goal.returns-then-warned-eq0-clause-ok
returns-then-warned-eq0-clause-ok c =
    let v = c.args.verifier.now in
    c.new.ensures.bytes
    ∙ warn-none (typed_locks v.start v.history) v.files
    (warned (state_of v) c.args.seat.0 c.args.named c.args.flags)
    (omega (arith, c.if-warned-eq0.true, c.warned.ensures))
