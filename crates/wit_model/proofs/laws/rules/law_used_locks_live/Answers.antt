use Rattle.wit_model.proofs.laws.rules.law_used_locks_live.Goals as goal
use Rattle.wit_model.proofs.Histories.Asked.{used_live}

pub returns : goal.returns
returns c = λ s t l legal seat used. used_live s.start s.files s.history t l legal seat used
