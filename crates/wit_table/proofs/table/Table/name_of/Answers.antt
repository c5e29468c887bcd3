use Rattle.std.proofs.Common.{◌≡◌, true, ap, ◌∙◌}
use Rattle.wit_model.specs.declared.locks.LockType.{LockType}
use Rattle.wit_model.specs.Rules.Names.{is_name}
use Rattle.wit_table.specs.Rows.{types_in}
use Rattle.wit_table.proofs.Places.{type_number-HasName, All-at}
use Rattle.wit_table.proofs.table.Table.name_of.Goals as goal

pub returns-clause-number : goal.returns-clause-number
returns-clause-number c =
    type_number-HasName c.args.self.now.types c.args.number.0 _ c.len-len.ensures.distinct
    c.requires.0 (rw (← c.self.view_is) c.name_at.ensures)

pub returns-clause-good : goal.returns-clause-good
returns-clause-good c =
    let has = c.name_at.ensures in
    ap is_name has.2 ∙ All-at (λ (t : LockType). is_name t.name ≡ true)
    (types_in c.self.inside.types.entries) _ has.0 c.self.invariant.names has.1
