use Rattle.wit_pool.proofs.Links.{head-there}
use Rattle.wit_pool.proofs.chain.open_chunk.Goals as goal

pub read-requires : goal.read-requires
read-requires c =
    head-there c.args.cells.now.at c.args.cells.now.slots c.args.chain.count c.args.chain.head
    c.in-Some.at c.requires c.in-Some.is
