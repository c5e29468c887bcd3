use Rattle.std.proofs.Common.{not, find, sym, ap, subst, ◌∙◌}
use Rattle.wit_model.specs.Rules.Verdict.{is_of}
use Rattle.wit_held.specs.Chains.{IsOnce, IsShallow}
use Rattle.wit_waiting.proofs.SeatRows.{number-now, list-now, chain-now, room-now, recorded-now}
use Rattle.wit_waiting.proofs.seats.Seats.record.Goals as goal

pub list_of-requires : goal.list_of-requires
list_of-requires c =
    number-now c.self.inside c.args.self.now c.self.view_is c.self.invariant c.args.seat.0
    c.requires.seat

pub enter-requires-clause-list : goal.enter-requires-clause-list
enter-requires-clause-list c =
    list-now c.self.inside c.args.self.now c.self.view_is c.self.invariant c.args.seat.0
    c.requires.seat c.list_of.result c.args.spin c.list_of.ensures

pub enter-requires-clause-once : goal.enter-requires-clause-once
enter-requires-clause-once c =
    subst (IsOnce c.args.taken.lock.0)
    (sym (chain-now c.self.inside c.args.self.now c.self.view_is c.self.invariant c.args.seat.0
    c.requires.seat c.list_of.result c.args.spin c.list_of.ensures)) c.requires.once

pub enter-requires-clause-shallow : goal.enter-requires-clause-shallow
enter-requires-clause-shallow c =
    subst (IsShallow c.args.taken.lock.0)
    (sym (chain-now c.self.inside c.args.self.now c.self.view_is c.self.invariant c.args.seat.0
    c.requires.seat c.list_of.result c.args.spin c.list_of.ensures)) c.requires.shallow

pub returns-clause-result : goal.returns-clause-result
returns-clause-result c =
    c.enter.ensures.result ∙ ap not
    (room-now c.self.inside c.args.self.now c.self.view_is c.self.invariant c.args.seat.0
    c.requires.seat c.list_of.result c.args.spin c.list_of.ensures c.enter.new.lists
    c.enter.ensures.size c.args.taken.lock.0)

pub returns-clause-seats : goal.returns-clause-seats
returns-clause-seats c =
    recorded-now c.self.inside c.args.self.now c.self.view_is c.self.invariant c.args.seat.0
    c.requires.seat c.list_of.result c.args.spin c.list_of.ensures c.enter.new.lists
    c.enter.ensures.size c.args.taken c.enter.ensures.groups

pub enter-requires-clause-new : goal.enter-requires-clause-new
enter-requires-clause-new c is =
    ap (find (is_of c.args.taken.lock.0))
    (chain-now c.self.inside c.args.self.now c.self.view_is c.self.invariant c.args.seat.0
    c.requires.seat c.list_of.result c.args.spin c.list_of.ensures)
    ∙ c.is_unheld-is_new.ensures is
