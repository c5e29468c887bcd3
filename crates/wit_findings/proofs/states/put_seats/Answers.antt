use Rattle.wit_findings.specs.States.{seat_text}
use Rattle.wit_findings.specs.Told.{told}
use Rattle.wit_report.proofs.Laid.{each_turn}
use Rattle.wit_findings.proofs.states.put_seats.Goals as goal

pub loop-place-preserved : goal.loop-place-preserved
loop-place-preserved c =
    each_turn (seat_text (told c.args.known.now)) c.loop-place.place c.args.text.now.items
    c.loop-place.text.items c.put_seat.new.text.items
    c.loop-place.invariant c.in_ok-put_seat.ensures
