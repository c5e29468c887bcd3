use Rattle.wit_model.proofs.Orders.Once.{distinct_legal}
use Rattle.wit_model.proofs.laws.verdicts.law_orders_adopted_once.Goals as goal

pub returns : goal.returns
returns c = distinct_legal
