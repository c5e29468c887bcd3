use Rattle.wit_orders.proofs.Spelled.{reads-spellings}
use Rattle.wit_orders.proofs.laws.law_order_lines_are_spelled.Goals as goal

pub returns : goal.returns
returns c = reads-spellings
