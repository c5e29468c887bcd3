use Rattle.wit_seats.proofs.Following.{follows}
use Rattle.wit_seats.proofs.keeper.follow.Goals as goal

pub load-requires : goal.load-requires
load-requires g c = (c.requires.table.0, c.requires.table.1, follows _ _ _ _ _ _ c.requires.step)
