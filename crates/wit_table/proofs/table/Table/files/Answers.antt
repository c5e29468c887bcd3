use Rattle.wit_table.proofs.Places.{IsDistinct-texts}
use Rattle.wit_table.proofs.table.Table.files.Goals as goal

pub returns-clause-distinct : goal.returns-clause-distinct
returns-clause-distinct c =
    rw (← c.self.view_is) (IsDistinct-texts c.self.inside.files.keys c.len.ensures.unique)
