use Rattle.wit_model.specs.Rules.State.{state_of}
use Rattle.wit_model.proofs.Histories.KnownFiles.{check_known, try_known}
use Rattle.wit_model.proofs.laws.histories.law_named_files_known.Goals as goal

pub returns-clause-checks : goal.returns-clause-checks
returns-clause-checks c = λ s t q known. check_known (state_of s) t q known

pub returns-clause-tries : goal.returns-clause-tries
returns-clause-tries c = λ s t l m site known. try_known (state_of s) t l.0 m site known
