use Rattle.wit_import.proofs.Example.{request-met}
use Rattle.wit_import.proofs.Told.{pairs-told, requests-written}
use Rattle.wit_import.proofs.laws.law_no_pair_is_lost.Goals as goal

pub returns-clause-told : goal.returns-clause-told
returns-clause-told c = pairs-told

pub returns-clause-written : goal.returns-clause-written
returns-clause-written c = requests-written

pub returns-clause-met : goal.returns-clause-met
returns-clause-met c = request-met
