use Rattle.wit_observers.proofs.Looking.{looks}
use Rattle.wit_observers.proofs.observer.look.Goals as goal

pub enter_as-requires : goal.enter_as-requires
enter_as-requires g c = looks g.J.Naming.list _ _
