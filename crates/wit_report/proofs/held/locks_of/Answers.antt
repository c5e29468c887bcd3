use Rattle.std.proofs.Common.{◌∙◌, sym}
use Rattle.wit_model.specs.Rules.State.{state_of, seat_at, typed_locks}
use Rattle.wit_model.specs.Trace.Views.{all_held, locks_text}
use Rattle.wit_report.proofs.Filled.{wants, held-filled}
use Rattle.wit_report.proofs.held.locks_of.Goals as goal

pub returns-in_err-put_seat-clause-err : goal.returns-in_err-put_seat-clause-err
returns-in_err-put_seat-clause-err c =
    let v = c.args.verifier.now in
    wants c.from_residual.result (locks_text v c.args.seat.0) c.from_residual.ensures.1
    (held-filled (typed_locks v.start v.history) v.files
    (all_held (seat_at (state_of v) c.args.seat.0))
    (sym c.holds_any.ensures ∙ c.if-not-holds_any.false))
