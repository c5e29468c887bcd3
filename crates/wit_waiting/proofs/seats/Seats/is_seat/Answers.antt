use Rattle.std.proofs.Common.{◌∙◌}
use Rattle.wit_waiting.proofs.SeatRows.{is_seat-now}
use Rattle.wit_waiting.proofs.seats.Seats.is_seat.Goals as goal

pub returns-then-seat-gt0 : goal.returns-then-seat-gt0
returns-then-seat-gt0 c =
    is_seat-now c.self.inside c.args.self.now c.self.view_is c.args.seat.0 c.len.result
    (c.len.ensures ∙ c.self.inside.requests.ok.0) c.if-seat-gt0.true
