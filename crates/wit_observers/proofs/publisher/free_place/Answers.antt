use Rattle.wit_observers.proofs.Looking.{admits, forks, merges}
use Rattle.wit_observers.proofs.publisher.free_place.Goals as goal

pub reader-requires : goal.reader-requires
reader-requires g c = admits g.J.Naming.list

pub tell-requires : goal.tell-requires
tell-requires g c = forks g.J.Naming.list _ _

pub learn-requires-clause-rule : goal.learn-requires-clause-rule
learn-requires-clause-rule g c = merges g.J.Naming.list _ _ _ _
