use Rattle.wit_model.proofs.Histories.NamedFiles.{legal-tells, legal-other}
use Rattle.wit_model.proofs.laws.histories.law_told_files_suffice.Goals as goal

pub returns-clause-told : goal.returns-clause-told
returns-clause-told c = legal-tells

pub returns-clause-suffice : goal.returns-clause-suffice
returns-clause-suffice c = legal-other
