use Rattle.std.proofs.Common.{refl}
use Rattle.wit_table.proofs.table.Table.file.Goals as goal

pub returns-then-has_name-clause-ok : goal.returns-then-has_name-clause-ok
returns-then-has_name-clause-ok c =
    let is = c.has_name.ensures c.if-has_name.true in
    rw (is.1, is.2, is.3) refl
