use Rattle.std.proofs.Common.{◌∙◌, ap, rules}
use Rattle.wit_model.specs.declared.locks.Mode.TheVariants.{Exclusive}
use Rattle.wit_gates.specs.Tickets.{Pass}
use Rattle.wit_gates.specs.Claims.{claim}
use Rattle.wit_gates.proofs.Steps.{sets, stands, goes_down}
use Rattle.wit_gates.proofs.word.Word.downgrade.Goals as goal

pub store-requires : goal.store-requires
store-requires c =
    let seat = c.ticket.inside.seat in (
      search rules,
      search rules,
      sets c.self.inside.table.shared.table_id.slots seat.id seat.me
          (claim 0 1) (claim 1 0) _ (stands seat.me Exclusive c.ticket.invariant
          (ap (λ (p : Pass). p.mode) (c.ticket.view_is ∙ c.requires))) goes_down,
    )
