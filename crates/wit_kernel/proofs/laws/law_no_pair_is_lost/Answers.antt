use Rattle.wit_kernel.proofs.Example.{request-told}
use Rattle.wit_kernel.proofs.PairsTold.{pairs-told}
use Rattle.wit_kernel.proofs.laws.law_no_pair_is_lost.Goals as goal

pub returns-clause-told : goal.returns-clause-told
returns-clause-told c = pairs-told

pub returns-clause-met : goal.returns-clause-met
returns-clause-met c = request-told
