use Rattle.wit_against.proofs.Clean.{no-deadlock, no-deadlock_of_runs}
use Rattle.wit_against.proofs.Agreed.{one_order-clean, agreed-within}
use Rattle.wit_against.proofs.laws.law_nothing_against_never_deadlock.Goals as goal

pub returns-clause-threads : goal.returns-clause-threads
returns-clause-threads c = no-deadlock

pub returns-clause-runs : goal.returns-clause-runs
returns-clause-runs c = no-deadlock_of_runs

pub returns-clause-met : goal.returns-clause-met
returns-clause-met c = (one_order-clean, agreed-within)
