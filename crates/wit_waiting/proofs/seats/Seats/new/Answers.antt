use Rattle.std.proofs.Common.{refl}
use Rattle.wit_waiting.proofs.SeatRows.{row-idle}
use Rattle.wit_waiting.proofs.seats.Seats.new.Goals as goal

pub returns-clause-ok : goal.returns-clause-ok
returns-clause-ok c =
    row-idle c.args.seats c.args.chunks _ refl c.in_ok-new.field-0 c.in_ok-no_requests.field-0.items
    c.in_ok-new.ensures.ok c.in_ok-no_requests.ensures
