use Rattle.std.proofs.Common.{true, sym, subst}
use Rattle.wit_held.specs.Chains.{IsOnce, change_lock}
use Rattle.wit_held.specs.Marks.{marked}
use Rattle.wit_waiting.proofs.SeatRows.{number-now, list-now, chain-now, written-now}
use Rattle.wit_waiting.proofs.seats.Seats.forbid.Goals as goal

pub list_of-requires : goal.list_of-requires
list_of-requires c =
    number-now c.self.inside c.args.self.now c.self.view_is c.self.invariant c.args.seat.0
    c.requires.seat

pub norelease-requires-clause-list : goal.norelease-requires-clause-list
norelease-requires-clause-list c =
    list-now c.self.inside c.args.self.now c.self.view_is c.self.invariant c.args.seat.0
    c.requires.seat c.list_of.result c.args.spin c.list_of.ensures

pub norelease-requires-clause-once : goal.norelease-requires-clause-once
norelease-requires-clause-once c =
    subst (IsOnce c.args.lock.0)
    (sym (chain-now c.self.inside c.args.self.now c.self.view_is c.self.invariant c.args.seat.0
    c.requires.seat c.list_of.result c.args.spin c.list_of.ensures)) c.requires.once

pub returns : goal.returns
returns c =
    written-now c.self.inside c.args.self.now c.self.view_is c.self.invariant c.args.seat.0
    c.requires.seat c.list_of.result c.args.spin c.list_of.ensures c.norelease.new.lists
    c.norelease.ensures.size (change_lock c.args.lock.0 (marked true))
    c.norelease.ensures.groups
