use Rattle.std.proofs.Common.{◌+◌, rules, arith}
use Rattle.wit_gates.specs.Claims.{claim, unmatched}
use Rattle.wit_gates.proofs.Steps.{enters, tries, idles, one_more}
use Rattle.wit_gates.proofs.word.Word.try_share.Goals as goal

pub load_new_seat-found-requires : goal.load_new_seat-found-requires
load_new_seat-found-requires g c =
    (search rules, enters c.self.inside.table.shared.table_id.slots)

pub compare_exchange-now-requires : goal.compare_exchange-now-requires
compare_exchange-now-requires g c =
    let seat = c.loop.seat in
    let found = c.loop.found in (
      search rules,
      search rules,
      tries c.self.inside.table.shared.table_id.slots seat.id found (found + 1) seat.me
          (unmatched found) (claim 1 0) unmatched c.loop.invariant.1
          (one_more found found (omega arith)) (idles found),
    )
