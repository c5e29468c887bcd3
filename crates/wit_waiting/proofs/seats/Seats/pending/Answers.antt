use Rattle.std.proofs.Common.{sym, ◌∙◌}
use Rattle.wit_waiting.proofs.SeatRows.{given-tested, no_request-now}
use Rattle.wit_waiting.proofs.seats.Seats.pending.Goals as goal

pub request_of-requires : goal.request_of-requires
request_of-requires c =
    given-tested c.args.self.now c.args.seat.0
    (sym c.is_seat.ensures ∙ c.if-is_seat.true)

pub returns-else-is_seat : goal.returns-else-is_seat
returns-else-is_seat c =
    no_request-now c.args.self.now c.args.seat.0
    (sym c.is_seat.ensures ∙ c.if-is_seat.false)
