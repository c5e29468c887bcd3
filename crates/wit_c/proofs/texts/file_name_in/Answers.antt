use Rattle.wit_c.proofs.Names.{no_file_name}
use Rattle.wit_c.proofs.texts.file_name_in.Goals as goal

pub returns-in_default : goal.returns-in_default
returns-in_default c = no_file_name _ c.in_default.ensures.cases.0
