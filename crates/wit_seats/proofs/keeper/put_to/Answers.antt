use Rattle.wit_seats.proofs.Rules.{takes_in}
use Rattle.wit_seats.proofs.keeper.put_to.Goals as goal

pub join_seat-requires : goal.join_seat-requires
join_seat-requires c = (c.requires.0, c.requires.1, c.requires.2, c.requires.3, takes_in _ _ _ _)
