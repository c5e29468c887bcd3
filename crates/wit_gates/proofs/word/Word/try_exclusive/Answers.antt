use Rattle.std.proofs.Common.{rules}
use Rattle.wit_model.specs.Gates.{exclusive_word}
use Rattle.wit_gates.specs.Claims.{claim, unmatched}
use Rattle.wit_gates.proofs.Steps.{enters, tries, idles, takes_all}
use Rattle.wit_gates.proofs.word.Word.try_exclusive.Goals as goal

pub load_new_seat-seat-requires : goal.load_new_seat-seat-requires
load_new_seat-seat-requires c = (search rules, enters c.self.inside.table.shared.table_id.slots)

pub compare_exchange-found-requires : goal.compare_exchange-found-requires
compare_exchange-found-requires c =
    let seat = c.load_new_seat-seat.result.1 in
    let met = c.load_new_seat-seat.result.0 in (
      search rules,
      search rules,
      tries c.self.inside.table.shared.table_id.slots seat.id 0 exclusive_word seat.me
          (unmatched met) (claim 0 1) unmatched c.load_new_seat-seat.ensures.2 (takes_all met)
          (idles met),
    )
