use Rattle.wit_model.proofs.Histories.Longer.{orders-added, order-stays, adopted-numbered}
use Rattle.wit_model.proofs.laws.histories.law_orders_keep_numbers.Goals as goal

pub returns-clause-added : goal.returns-clause-added
returns-clause-added c = orders-added

pub returns-clause-number : goal.returns-clause-number
returns-clause-number c = order-stays

pub returns-clause-adopted : goal.returns-clause-adopted
returns-clause-adopted c = adopted-numbered
