use Rattle.std.proofs.Common.{rules}
use Rattle.wit_gates.proofs.Steps.{enters}
use Rattle.wit_gates.proofs.word.Word.look.Goals as goal

pub load_new_seat-found-requires : goal.load_new_seat-found-requires
load_new_seat-found-requires c = (search rules, enters c.self.inside.table.shared.table_id.slots)
