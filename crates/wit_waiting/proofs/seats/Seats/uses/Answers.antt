use Rattle.wit_waiting.specs.Seats.{seat_in}
use Rattle.wit_waiting.proofs.SeatTests.{used-sleep, used-spin, used-asked}
use Rattle.wit_waiting.proofs.seats.Seats.uses.Goals as goal

pub returns-then-holds : goal.returns-then-holds
returns-then-holds c =
    used-sleep c.args.lock.0 (seat_in c.args.self.now c.args.seat.0) c.holds.result c.holds.ensures
    c.if-holds.true

pub returns-then-holds-2 : goal.returns-then-holds-2
returns-then-holds-2 c =
    used-spin c.args.lock.0 (seat_in c.args.self.now c.args.seat.0) c.holds.result c.holds-2.result
    c.holds.ensures c.if-holds.false c.holds-2.ensures c.if-holds-2.true

pub returns : goal.returns
returns c =
    used-asked c.args.lock.0 (seat_in c.args.self.now c.args.seat.0) c.holds.result c.holds-2.result
    c.holds.ensures c.if-holds.false c.holds-2.ensures c.if-holds-2.false
    c.is_for.result c.request_of.result c.request_of.ensures c.is_for.ensures
