use Rattle.std.proofs.lemmas.Result.{err_from_is_err_and}
use Rattle.wit_model.specs.declared.calls.Call.TheVariants.{Check}
use Rattle.wit_locks.specs.Locking.{next_request}
use Rattle.wit_locks.proofs.Calls.{acquires, asks_for, refused, unrefused}
use Rattle.wit_locks.proofs.lock.Lock.acquire_again.Goals as goal

pub returns-in_err-asked-clause-failed : goal.returns-in_err-asked-clause-failed
returns-in_err-asked-clause-failed g c =
    let error = err_from_is_err_and c.from_residual.result c.from_residual.ensures.1 in
    rw (error.1, error.2)
    (refused g.J.Room.start (Check (next_request c.args.self.now.number c.args.mode c.args.site))
    c.in_err-asked.field-0.0 c.args.seat.now c.check.new.seat c.in_err-asked.ensures.told)

pub unreachable-requires : goal.unreachable-requires
unreachable-requires g c =
    unrefused c.note.result c.in-Err.field-0
    (c.note.ensures.asked (asks_for g.J.Room.start
    (next_request c.args.self.now.number c.args.mode c.args.site) c.in_ok-asked.asked
    c.args.seat.now c.check.new.seat c.in_ok-asked.ensures.told)) c.in-Err.is

pub returns-clause-calls : goal.returns-clause-calls
returns-clause-calls g c =
    acquires g.J.Room.start (next_request c.args.self.now.number c.args.mode c.args.site)
    c.in_ok-asked.asked c.in-Ok.noted
    c.args.seat.now c.check.new.seat c.note.new.seat c.in_ok-asked.ensures.told c.in-Ok.ensures.told
