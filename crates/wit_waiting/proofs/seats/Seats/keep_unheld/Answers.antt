use Rattle.std.proofs.Common.{find, ap, ◌∙◌}
use Rattle.wit_model.specs.Rules.Verdict.{is_of}
use Rattle.wit_waiting.proofs.SeatRows.{number-now, chain-now}
use Rattle.wit_waiting.proofs.seats.Seats.keep_unheld.Goals as goal

pub list_of-requires : goal.list_of-requires
list_of-requires c =
    number-now c.self.inside c.args.self.now c.self.view_is c.self.invariant c.args.seat.0
    c.requires.seat

pub invariant_of-self : goal.invariant_of-self
invariant_of-self c = record {
  few = c.self.invariant.few;
  lists = c.self.invariant.lists;
  placed = c.self.invariant.placed;
  unheld =
      ap (find (is_of c.args.lock.0))
      (chain-now c.self.inside c.args.self.now c.self.view_is c.self.invariant c.args.seat.0
      c.requires.seat c.list_of.result c.args.spin c.list_of.ensures)
      ∙ c.requires.new;
}
