use Rattle.std.proofs.Common.{find, sym, ap, subst, ◌∙◌}
use Rattle.wit_model.specs.Rules.Verdict.{is_of}
use Rattle.wit_model.specs.Rules.Step.{released}
use Rattle.wit_held.specs.Chains.{IsOnce}
use Rattle.wit_waiting.proofs.SeatRows.{number-now, list-now, chain-now, forgotten-now}
use Rattle.wit_waiting.proofs.seats.Seats.release.Goals as goal

pub list_of-requires : goal.list_of-requires
list_of-requires c =
    number-now c.self.inside c.args.self.now c.self.view_is c.self.invariant c.args.seat.0
    c.requires.seat

pub release-requires-clause-list : goal.release-requires-clause-list
release-requires-clause-list c =
    list-now c.self.inside c.args.self.now c.self.view_is c.self.invariant c.args.seat.0
    c.requires.seat c.list_of.result c.args.spin c.list_of.ensures

pub release-requires-clause-once : goal.release-requires-clause-once
release-requires-clause-once c =
    subst (IsOnce c.args.lock.0)
    (sym (chain-now c.self.inside c.args.self.now c.self.view_is c.self.invariant c.args.seat.0
    c.requires.seat c.list_of.result c.args.spin c.list_of.ensures)) c.requires.once

pub returns-clause-result : goal.returns-clause-result
returns-clause-result c =
    c.release.ensures.result
    ∙ ap (λ chain. released c.args.watch c.args.mode (find (is_of c.args.lock.0) chain))
    (chain-now c.self.inside c.args.self.now c.self.view_is c.self.invariant c.args.seat.0
    c.requires.seat c.list_of.result c.args.spin c.list_of.ensures)

pub returns-clause-seats : goal.returns-clause-seats
returns-clause-seats c taken =
    forgotten-now c.self.inside c.args.self.now c.self.view_is c.self.invariant c.args.seat.0
    c.requires.seat c.list_of.result c.args.spin c.list_of.ensures c.release.new.lists
    c.release.ensures.size c.args.lock.0 (c.release.ensures.groups taken)
