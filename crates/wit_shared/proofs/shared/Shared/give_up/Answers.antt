use Rattle.wit_shared.proofs.Own.{give_up_asked}
use Rattle.wit_shared.proofs.shared.Shared.give_up.Goals as goal

pub returns-clause-asked : goal.returns-clause-asked
returns-clause-asked g c =
    give_up_asked g.J.Room.start c.args.lock c.give_up-answer.result c.args.seat.now
    c.give_up-answer.new.seat c.give_up-answer.ensures
