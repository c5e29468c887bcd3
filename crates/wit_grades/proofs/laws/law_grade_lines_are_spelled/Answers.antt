use Rattle.wit_grades.proofs.Spelled.{reads-spellings}
use Rattle.wit_grades.proofs.laws.law_grade_lines_are_spelled.Goals as goal

pub returns : goal.returns
returns c = reads-spellings
