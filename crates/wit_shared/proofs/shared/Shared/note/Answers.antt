use Rattle.wit_shared.proofs.Own.{note_asked}
use Rattle.wit_shared.proofs.shared.Shared.note.Goals as goal

pub returns-clause-asked : goal.returns-clause-asked
returns-clause-asked g c =
    note_asked g.J.Room.start c.args.lock c.note-answer.result c.args.seat.now
    c.note-answer.new.seat c.note-answer.ensures
