use Rattle.wit_shared.proofs.Own.{try_finds}
use Rattle.wit_shared.proofs.shared.Shared.note_try.Goals as goal

pub returns-clause-file : goal.returns-clause-file
returns-clause-file g c =
    try_finds g.J.Room.start c.args.lock c.args.mode c.args.site c.call.result c.args.seat.now
    c.call.new.seat c.call.ensures
