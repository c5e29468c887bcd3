use Rattle.std.proofs.Common.{string_bytes}
use Rattle.wit_model.specs.Rules.State.{state_of, seat_at, typed_locks}
use Rattle.wit_report.proofs.HeldLines.{lines-both}
use Rattle.wit_report.proofs.held.put_seat.Goals as goal

pub returns : goal.returns
returns c =
    let v = c.args.verifier.now in
    lines-both (typed_locks v.start v.history) v.files (string_bytes c.args.text.now)
    (string_bytes c.put_all.new.text) (string_bytes c.put_all-2.new.text)
    (seat_at (state_of v) c.args.seat.0)
    (rw (c.deref.ensures.value, c.in_ok-sleep.ensures) at c.in_ok-put_all.ensures)
    (rw (c.deref-2.ensures.value, c.in_ok-spin.ensures) at c.in_ok-put_all-2.ensures)
