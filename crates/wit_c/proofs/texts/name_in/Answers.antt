use Rattle.wit_c.proofs.Names.{no_name}
use Rattle.wit_c.proofs.texts.name_in.Goals as goal

pub returns-in_default : goal.returns-in_default
returns-in_default c = no_name _ c.in_default.ensures.cases.0
