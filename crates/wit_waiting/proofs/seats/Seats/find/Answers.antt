use Rattle.std.proofs.Common.{find, ap, sym, subst, ◌∙◌}
use Rattle.wit_model.specs.Rules.Verdict.{is_of}
use Rattle.wit_held.specs.Chains.{IsOnce}
use Rattle.wit_waiting.proofs.SeatRows.{number-now, list-now, chain-now}
use Rattle.wit_waiting.proofs.seats.Seats.find.Goals as goal

pub list_of-requires : goal.list_of-requires
list_of-requires c =
    number-now c.self.inside c.args.self.now c.self.view_is c.self.invariant c.args.seat.0
    c.requires.seat

pub held-requires-clause-list : goal.held-requires-clause-list
held-requires-clause-list c =
    list-now c.self.inside c.args.self.now c.self.view_is c.self.invariant c.args.seat.0
    c.requires.seat c.list_of.result c.args.spin c.list_of.ensures

pub held-requires-clause-once : goal.held-requires-clause-once
held-requires-clause-once c =
    subst (IsOnce c.args.lock.0)
    (sym (chain-now c.self.inside c.args.self.now c.self.view_is c.self.invariant c.args.seat.0
    c.requires.seat c.list_of.result c.args.spin c.list_of.ensures)) c.requires.once

pub returns : goal.returns
returns c =
    c.held.ensures ∙ ap (find (is_of c.args.lock.0))
    (chain-now c.self.inside c.args.self.now c.self.view_is c.self.invariant c.args.seat.0
    c.requires.seat c.list_of.result c.args.spin c.list_of.ensures)
