use Rattle.std.proofs.Common.{◌∙◌, ap, rules}
use Rattle.wit_model.specs.declared.locks.Mode.TheVariants.{Shared}
use Rattle.wit_model.specs.Gates.{exclusive_word}
use Rattle.wit_gates.specs.Tickets.{Pass}
use Rattle.wit_gates.specs.Claims.{claim, share_met}
use Rattle.wit_gates.proofs.Steps.{tries, tells, stands, goes_up, keeps_share}
use Rattle.wit_gates.proofs.word.Word.try_upgrade.Goals as goal

pub compare_exchange-found-requires : goal.compare_exchange-found-requires
compare_exchange-found-requires c =
    let seat = c.ticket.inside.seat in (
      search rules,
      search rules,
      tries c.self.inside.table.shared.table_id.slots seat.id 1 exclusive_word seat.me
          (claim 1 0) (claim 0 1) share_met
          (stands seat.me Shared c.ticket.invariant
          (ap (λ (p : Pass). p.mode) (c.ticket.view_is ∙ c.requires))) goes_up keeps_share,
    )

pub split_seat-met-requires : goal.split_seat-met-requires
split_seat-met-requires c =
    let seat = c.compare_exchange-found.new.seat in (
      search rules,
      search rules,
      tells seat.id c.compare_exchange-found.result seat.me (search rules),
    )
