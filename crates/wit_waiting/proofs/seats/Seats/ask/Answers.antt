use Rattle.std.proofs.Common.{Some, arith}
use Rattle.wit_waiting.proofs.SeatRows.{within-row, asked-now}
use Rattle.wit_waiting.proofs.seats.Seats.ask.Goals as goal

pub index_mut-requires : goal.index_mut-requires
index_mut-requires c =
    let lt =
    within-row c.self.inside c.args.self.now c.self.view_is c.self.invariant c.args.seat.0
    c.requires in omega (arith, lt, c.self.inside.requests.ok.0)

pub returns : goal.returns
returns c =
    asked-now c.self.inside c.args.self.now c.self.view_is c.self.invariant c.args.seat.0 c.requires
    (Some c.args.request)
