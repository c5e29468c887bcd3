use Rattle.std.proofs.Common.{find, ap, ◌∙◌}
use Rattle.wit_model.specs.Rules.Assertions.{assertion}
use Rattle.wit_model.specs.Rules.Verdict.{is_of}
use Rattle.wit_waiting.proofs.SeatRows.{number-now, list-now, chain-now}
use Rattle.wit_waiting.proofs.seats.Seats.assert_is.Goals as goal

pub list_of-requires : goal.list_of-requires
list_of-requires c =
    number-now c.self.inside c.args.self.now c.self.view_is c.self.invariant
    c.args.seat.0 c.requires

pub assert_is-requires : goal.assert_is-requires
assert_is-requires c =
    list-now c.self.inside c.args.self.now c.self.view_is c.self.invariant c.args.seat.0 c.requires
    c.list_of.result c.args.spin c.list_of.ensures

pub returns : goal.returns
returns c =
    c.assert_is.ensures
    ∙ ap (λ chain. assertion c.args.watch c.args.flags (find (is_of c.args.lock.0) chain))
    (chain-now c.self.inside c.args.self.now c.self.view_is c.self.invariant c.args.seat.0
    c.requires c.list_of.result c.args.spin c.list_of.ensures)
