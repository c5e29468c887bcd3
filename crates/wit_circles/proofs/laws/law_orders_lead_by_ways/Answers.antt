use Rattle.wit_circles.proofs.Ways.{leads-way, way-leads}
use Rattle.wit_circles.proofs.laws.law_orders_lead_by_ways.Goals as goal

pub returns : goal.returns
returns c = λ orders a b. (leads-way orders a b, λ found. way-leads orders a found.0 b found.1)
