use Rattle.wit_locks.proofs.Calls.{try_entered}
use Rattle.wit_locks.proofs.lock.Lock.try_acquire.Goals as goal

pub returns-in-Ok-note_try-clause-calls : goal.returns-in-Ok-note_try-clause-calls
returns-in-Ok-note_try-clause-calls g c =
    try_entered g.J.Room.start c.args.self.now.number c.args.mode c.args.site c.in-Ok-note_try.noted
    c.args.seat.now c.note_try.new.seat c.in-Ok-note_try.ensures.told
