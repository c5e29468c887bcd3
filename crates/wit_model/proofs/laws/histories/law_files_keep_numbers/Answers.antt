use Rattle.wit_model.proofs.Histories.Longer.{number-stays, file-stays, file-there, files-added}
use Rattle.wit_model.proofs.laws.histories.law_files_keep_numbers.Goals as goal

pub returns-clause-added : goal.returns-clause-added
returns-clause-added c = files-added

pub returns-clause-there : goal.returns-clause-there
returns-clause-there c = file-there

pub returns-clause-number : goal.returns-clause-number
returns-clause-number c = λ files more n name is. number-stays files more n name is

pub returns-clause-name : goal.returns-clause-name
returns-clause-name c = file-stays
