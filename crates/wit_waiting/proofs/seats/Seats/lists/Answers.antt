use Rattle.wit_waiting.proofs.SeatRows.{holds-now}
use Rattle.wit_waiting.proofs.seats.Seats.lists.Goals as goal

pub returns : goal.returns
returns c = holds-now c.self.inside c.args.self.now c.self.view_is c.self.invariant
