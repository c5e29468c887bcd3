use Rattle.std.proofs.Common.{arith}
use Rattle.wit_waiting.proofs.SeatRows.{within-row, request-now}
use Rattle.wit_waiting.proofs.seats.Seats.request_of.Goals as goal

pub index-requires : goal.index-requires
index-requires c =
    let lt =
    within-row c.self.inside c.args.self.now c.self.view_is c.self.invariant c.args.seat.0
    c.requires in
    omega (arith, lt, c.self.inside.requests.ok.0)

pub returns : goal.returns
returns c =
    request-now c.self.inside c.args.self.now c.self.view_is c.self.invariant c.args.seat.0
    c.requires _ c.index.ensures
