use Rattle.std.proofs.Common.{arith}
use Rattle.wit_waiting.proofs.SeatRows.{number-now, list-now, item-now, beyond-now}
use Rattle.wit_waiting.proofs.seats.Seats.at.Goals as goal

pub list_of-list-requires : goal.list_of-list-requires
list_of-list-requires c =
    number-now c.self.inside c.args.self.now c.self.view_is c.self.invariant
    c.args.seat.0 c.requires

pub len-requires : goal.len-requires
len-requires c = record {
  list =
      list-now c.self.inside c.args.self.now c.self.view_is c.self.invariant c.args.seat.0
      c.requires c.list_of-list.result c.args.spin c.list_of-list.ensures;
}

pub returns-then-place-len : goal.returns-then-place-len
returns-then-place-len c =
    item-now c.self.inside c.args.self.now c.self.view_is c.self.invariant c.args.seat.0 c.requires
    c.list_of-list.result c.args.spin c.list_of-list.ensures c.args.place c.at.result
    (omega arith) c.at.ensures

pub returns-else-place-len : goal.returns-else-place-len
returns-else-place-len c =
    beyond-now c.self.inside c.args.self.now c.self.view_is c.self.invariant c.args.seat.0
    c.requires c.list_of-list.result c.args.spin c.list_of-list.ensures
    c.args.place (omega arith)
