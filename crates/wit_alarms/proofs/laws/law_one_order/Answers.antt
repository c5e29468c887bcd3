use Rattle.wit_alarms.proofs.So.{one-order}
use Rattle.wit_alarms.proofs.laws.law_one_order.Goals as goal

pub returns : goal.returns
returns c = record { none = λ lives facts rank forward. one-order facts rank forward lives }
