use Rattle.wit_import.proofs.Example.{text-spelled}
use Rattle.wit_import.proofs.Spelled.{lines-spelled}
use Rattle.wit_import.proofs.laws.law_lines_are_spelled.Goals as goal

pub returns-clause-lines : goal.returns-clause-lines
returns-clause-lines c = lines-spelled

pub returns-clause-met : goal.returns-clause-met
returns-clause-met c = text-spelled
