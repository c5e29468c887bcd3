use Rattle.std.proofs.Common.{◌≡◌, ℕ, List, true}
use Rattle.wit_model.specs.Rules.Names.{is_file_name}
use Rattle.wit_table.specs.Rows.{texts}
use Rattle.wit_table.proofs.Places.{file_number-at, All-at}
use Rattle.wit_table.proofs.table.Table.file_name.Goals as goal

pub returns-clause-number : goal.returns-clause-number
returns-clause-number c =
    file_number-at c.args.self.now.files c.args.file.0 _ c.files-files.ensures.distinct c.requires.0
    (rw (← c.self.view_is) c.file_at.ensures)

pub returns-clause-good : goal.returns-clause-good
returns-clause-good c =
    All-at (λ (f : List ℕ). is_file_name f ≡ true) (texts c.self.inside.files.keys) _ _
    c.self.invariant.file_names c.file_at.ensures
