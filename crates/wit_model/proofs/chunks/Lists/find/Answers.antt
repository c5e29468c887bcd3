use Rattle.wit_model.proofs.Walking.{found-few}
use Rattle.wit_model.proofs.chunks.Lists.find.Goals as goal

pub find_before-found-requires : goal.find_before-found-requires
find_before-found-requires g c =
    found-few (g.Self.Lists.chunks c.args.self.now) c.args.list c.loop-spot.spot c.in-Some.at
    c.in-Some.is c.loop-spot.invariant.0
    c.args.lock.0 c.loop-spot.found c.loop-spot.invariant.1 c.newest-spot.ensures.few
