use Rattle.std.proofs.Common.{inl, inr, refl}
use Rattle.std.proofs.lemmas.Result.{err_from_is_err_and}
use Rattle.wit_model.specs.declared.calls.Call.TheVariants.{Check}
use Rattle.wit_locks.specs.Locking.{first_request}
use Rattle.wit_locks.proofs.Calls.{acquires, asks_for, asks_mode, gives_up, refused, unrefused}
use Rattle.wit_locks.proofs.lock.Lock.acquire.Goals as goal

pub returns-in_err-asked-clause-failed : goal.returns-in_err-asked-clause-failed
returns-in_err-asked-clause-failed g c =
    let error = err_from_is_err_and c.from_residual.result c.from_residual.ensures.1 in
    rw (error.1, error.2)
    (inl (refused g.J.Room.start
    (Check (first_request c.args.self.now.number c.args.mode c.args.site))
    c.in_err-asked.field-0.0 c.args.seat.now c.check.new.seat c.in_err-asked.ensures.told))

pub acquire-requires : goal.acquire-requires
acquire-requires g c =
    asks_mode g.J.Room.start (first_request c.args.self.now.number c.args.mode c.args.site)
    c.in_ok-asked.asked c.args.seat.now c.check.new.seat c.in_ok-asked.ensures.told

pub unreachable-requires : goal.unreachable-requires
unreachable-requires g c =
    unrefused c.note.result c.in-Err-note.field-0
    (c.note.ensures.asked (asks_for g.J.Room.start
    (first_request c.args.self.now.number c.args.mode c.args.site) c.in_ok-asked.asked
    c.args.seat.now c.check.new.seat c.in_ok-asked.ensures.told)) c.in-Err-note.is

pub unreachable-requires-in-Err-give_up : goal.unreachable-requires-in-Err-give_up
unreachable-requires-in-Err-give_up g c =
    unrefused c.give_up.result c.in-Err-give_up.field-0
    (c.give_up.ensures.asked (asks_for g.J.Room.start
    (first_request c.args.self.now.number c.args.mode c.args.site) c.in_ok-asked.asked
    c.args.seat.now c.check.new.seat c.in_ok-asked.ensures.told)) c.in-Err-give_up.is

pub returns-in-Ok-note-clause-calls : goal.returns-in-Ok-note-clause-calls
returns-in-Ok-note-clause-calls g c =
    acquires g.J.Room.start (first_request c.args.self.now.number c.args.mode c.args.site)
    c.in_ok-asked.asked c.in-Ok-note.noted
    c.args.seat.now c.check.new.seat c.note.new.seat c.in_ok-asked.ensures.told c.in-Ok-note.ensures.told

pub returns-in-Ok-give_up-clause-failed : goal.returns-in-Ok-give_up-clause-failed
returns-in-Ok-give_up-clause-failed g c =
    inr (
      refl,
      (c.in-Err._met, c.in-Err.ensures),
      c.in_ok-asked.asked,
      gives_up g.J.Room.start (first_request c.args.self.now.number c.args.mode c.args.site)
          c.in_ok-asked.asked c.in-Ok-give_up.field-0
          c.args.seat.now c.check.new.seat c.give_up.new.seat c.in_ok-asked.ensures.told
          c.in-Ok-give_up.ensures.told,
    )
