use Rattle.std.proofs.Common.{◌∙◌, sym, string_bytes}
use Rattle.wit_model.specs.Rules.State.{state_of, seat_at, typed_locks}
use Rattle.wit_model.specs.Trace.Views.{all_held}
use Rattle.wit_report.proofs.HeldLines.{holder-none, holder-written}
use Rattle.wit_report.proofs.held.put_holder.Goals as goal

pub returns-then-not-holds_any : goal.returns-then-not-holds_any
returns-then-not-holds_any c =
    let v = c.args.verifier.now in
    holder-none (string_bytes c.args.text.now) (typed_locks v.start v.history) v.files c.args.seat.0
    (all_held (seat_at (state_of v) c.args.seat.0))
    (sym c.holds_any.ensures ∙ c.if-not-holds_any.true)

pub returns : goal.returns
returns c =
    let v = c.args.verifier.now in
    holder-written (string_bytes c.args.text.now) (typed_locks v.start v.history) v.files
    c.args.seat.0 (all_held (seat_at (state_of v) c.args.seat.0))
    (sym c.holds_any.ensures ∙ c.if-not-holds_any.false) c.in_ok-push_str.ensures.bytes
    c.in_ok-put_number.ensures c.in_ok-push_str-2.ensures.bytes
    c.in_ok-put_seat.ensures
