use Rattle.wit_table.proofs.Places.{IsDistinct-type_names}
use Rattle.wit_table.proofs.table.Table.len.Goals as goal

pub returns-clause-distinct : goal.returns-clause-distinct
returns-clause-distinct c =
    rw (← c.self.view_is) (IsDistinct-type_names c.self.inside.types.entries c.len.ensures.unique)
