use Rattle.std.proofs.Common.{◌∙◌, ap, rules}
use Rattle.wit_model.specs.declared.locks.Mode.TheVariants.{Shared, Exclusive}
use Rattle.wit_gates.specs.Tickets.{Pass}
use Rattle.wit_gates.proofs.Steps.{leaves, stands, one_less, gives_all}
use Rattle.wit_gates.proofs.word.Word.free.Goals as goal

pub fetch_sub-requires : goal.fetch_sub-requires
fetch_sub-requires c =
    let seat = c.ticket.inside.seat in (
      search rules,
      search rules,
      leaves c.self.inside.table.shared.table_id.slots seat.id seat.me Shared _
          (stands seat.me Shared c.ticket.invariant
          (ap (λ (p : Pass). p.mode) (c.ticket.view_is ∙ c.requires) ∙ c.in-Shared.is)) one_less,
    )

pub store-requires : goal.store-requires
store-requires c =
    let seat = c.ticket.inside.seat in (
      search rules,
      search rules,
      leaves c.self.inside.table.shared.table_id.slots seat.id seat.me Exclusive _
          (stands seat.me Exclusive c.ticket.invariant
          (ap (λ (p : Pass). p.mode) (c.ticket.view_is ∙ c.requires) ∙ c.in-Exclusive.is))
          gives_all,
    )
