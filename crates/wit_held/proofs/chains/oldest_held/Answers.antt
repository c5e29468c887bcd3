use Rattle.std.proofs.Common.{sym}
use Rattle.wit_held.proofs.Recording.{some, none}
use Rattle.wit_held.proofs.chains.oldest_held.Goals as goal

pub returns-in-Some : goal.returns-in-Some
returns-in-Some g c =
    sym (some (g.L.Lists.chunks c.args.lists.now) c.args.list c.args.lock.0 c.in-Some.place
    c.at.result c.in-Some.ensures.place c.at.ensures)

pub returns-in-None : goal.returns-in-None
returns-in-None g c =
    sym (none (g.L.Lists.chunks c.args.lists.now) c.args.list c.args.lock.0 c.in-None.ensures.place)
