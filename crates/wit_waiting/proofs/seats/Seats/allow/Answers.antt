use Rattle.std.proofs.Common.{false, sym, subst}
use Rattle.wit_held.specs.Chains.{IsOnce, change_lock}
use Rattle.wit_held.specs.Marks.{marked}
use Rattle.wit_waiting.proofs.SeatRows.{number-now, list-now, chain-now, written-now}
use Rattle.wit_waiting.proofs.seats.Seats.allow.Goals as goal

pub list_of-requires : goal.list_of-requires
list_of-requires c =
    number-now c.self.inside c.args.self.now c.self.view_is c.self.invariant c.args.seat.0
    c.requires.seat

pub releaseok-requires-clause-list : goal.releaseok-requires-clause-list
releaseok-requires-clause-list c =
    list-now c.self.inside c.args.self.now c.self.view_is c.self.invariant c.args.seat.0
    c.requires.seat c.list_of.result c.args.spin c.list_of.ensures

pub releaseok-requires-clause-once : goal.releaseok-requires-clause-once
releaseok-requires-clause-once c =
    subst (IsOnce c.args.lock.0)
    (sym (chain-now c.self.inside c.args.self.now c.self.view_is c.self.invariant c.args.seat.0
    c.requires.seat c.list_of.result c.args.spin c.list_of.ensures)) c.requires.once

pub returns : goal.returns
returns c =
    written-now c.self.inside c.args.self.now c.self.view_is c.self.invariant c.args.seat.0
    c.requires.seat c.list_of.result c.args.spin c.list_of.ensures c.releaseok.new.lists
    c.releaseok.ensures.size (change_lock c.args.lock.0 (marked false))
    c.releaseok.ensures.groups
