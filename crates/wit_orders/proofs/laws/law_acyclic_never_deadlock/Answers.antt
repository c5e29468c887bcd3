use Rattle.wit_orders.proofs.Circles.{no-deadlock, no-deadlock_of_runs}
use Rattle.wit_orders.proofs.Certified.{certificate-acyclic, agreed-within}
use Rattle.wit_orders.proofs.laws.law_acyclic_never_deadlock.Goals as goal

pub returns-clause-threads : goal.returns-clause-threads
returns-clause-threads c = no-deadlock

pub returns-clause-runs : goal.returns-clause-runs
returns-clause-runs c = no-deadlock_of_runs

pub returns-clause-met : goal.returns-clause-met
returns-clause-met c = (certificate-acyclic, agreed-within)
