use Rattle.std.proofs.Common.{sym, subst}
use Rattle.wit_held.specs.Chains.{IsOnce, change_lock, in_mode}
use Rattle.wit_waiting.proofs.SeatRows.{number-now, list-now, chain-now, written-now}
use Rattle.wit_waiting.proofs.seats.Seats.turn.Goals as goal

pub list_of-requires : goal.list_of-requires
list_of-requires c =
    number-now c.self.inside c.args.self.now c.self.view_is c.self.invariant c.args.seat.0
    c.requires.seat

pub set_mode-requires-clause-list : goal.set_mode-requires-clause-list
set_mode-requires-clause-list c =
    list-now c.self.inside c.args.self.now c.self.view_is c.self.invariant c.args.seat.0
    c.requires.seat c.list_of.result c.args.spin c.list_of.ensures

pub set_mode-requires-clause-once : goal.set_mode-requires-clause-once
set_mode-requires-clause-once c =
    subst (IsOnce c.args.lock.0)
    (sym (chain-now c.self.inside c.args.self.now c.self.view_is c.self.invariant c.args.seat.0
    c.requires.seat c.list_of.result c.args.spin c.list_of.ensures)) c.requires.once

pub returns : goal.returns
returns c =
    written-now c.self.inside c.args.self.now c.self.view_is c.self.invariant c.args.seat.0
    c.requires.seat c.list_of.result c.args.spin c.list_of.ensures c.set_mode.new.lists
    c.set_mode.ensures.size (change_lock c.args.lock.0 (in_mode c.args.mode))
    c.set_mode.ensures.groups
