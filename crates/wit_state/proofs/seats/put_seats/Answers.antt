use Rattle.std.proofs.Common.{string_bytes}
use Rattle.wit_state.specs.State.{items_of_seat}
use Rattle.wit_report.proofs.Laid.{each_turn}
use Rattle.wit_state.proofs.seats.put_seats.Goals as goal

pub loop-place-preserved : goal.loop-place-preserved
loop-place-preserved c =
    each_turn (items_of_seat c.args.verifier.now) c.loop-place.place (string_bytes c.args.text.now)
    (string_bytes c.loop-place.text) (string_bytes c.put_seat.new.text)
    c.loop-place.invariant c.in_ok-put_seat.ensures
