use Rattle.wit_pool.proofs.Links.{led-there}
use Rattle.wit_pool.proofs.chain.pass.Goals as goal

pub returns-in-Some-clause-there : goal.returns-in-Some-clause-there
returns-in-Some-clause-there c p there =
    led-there c.args.cells.now.at c.args.cells.now.slots c.lead.new.cells.slots
    c.in-Some.newer.place c.args.next
    c.lead.ensures.slots p there
