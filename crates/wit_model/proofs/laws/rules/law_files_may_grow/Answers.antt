use Rattle.wit_model.proofs.laws.rules.law_files_may_grow.Goals as goal
use Rattle.wit_model.proofs.Histories.NamedFiles.{legal-named}

pub returns : goal.returns
returns c = legal-named
