use Rattle.wit_seats.proofs.Rules.{gives}
use Rattle.wit_seats.proofs.keeper.take_off.Goals as goal

pub split_seat-requires : goal.split_seat-requires
split_seat-requires c = (c.requires.0, c.requires.1, gives _ _)
