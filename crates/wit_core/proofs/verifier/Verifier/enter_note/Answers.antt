use Rattle.std.proofs.Common.{None, Ok, ap, ap₂, sym, subst, ◌∙◌, refl, arith}
use Rattle.wit_model.specs.Rules.Numbers.{IsGiven}
use Rattle.wit_model.specs.Rules.Types.{is_spin}
use Rattle.wit_model.specs.declared.calls.Call.TheVariants.{Note}
use Rattle.wit_core.specs.Acquiring.{reply_to}
use Rattle.wit_waiting.specs.Seats.{Seating, with_seat, asking}
use Rattle.wit_core.proofs.Keeping.{kept_entered, noted_log}
use Rattle.wit_core.proofs.Entries.Accepting.{accepted, given}
use Rattle.wit_core.proofs.Entries.Acquiring.{given-then, reply-logged, reply-told, acquire_once}
use Rattle.wit_core.proofs.Entries.Acquiring.{note_shallow, note_owed, leaves_note}
use Rattle.wit_core.proofs.Seen.{seen_as}
use Rattle.wit_core.proofs.Whole.{kept, kept_let_go}
use Rattle.wit_core.proofs.verifier.Verifier.enter_note.Goals as goal

pub acquire-acquisition-requires-clause-seat : goal.acquire-acquisition-requires-clause-seat
acquire-acquisition-requires-clause-seat c =
    given (seen_as c.self.invariant c.self.view_is) c.args.seat.0
    (Note c.args.lock) _ c.requires.accepted

pub acquire-acquisition-requires-clause-once : goal.acquire-acquisition-requires-clause-once
acquire-acquisition-requires-clause-once c =
    acquire_once (seen_as c.self.invariant c.self.view_is) c.args.seat.0 c.args.lock
    c.is_spin-spin.result (c.is_spin-spin.ensures ∙ ap is_spin c.class_of_lock.ensures)
    (Note c.args.lock) _ c.requires.accepted

pub acquire-acquisition-requires-clause-shallow : goal.acquire-acquisition-requires-clause-shallow
acquire-acquisition-requires-clause-shallow c =
    note_shallow (seen_as c.self.invariant c.self.view_is) c.args.seat.0 c.args.lock
    c.is_spin-spin.result (c.is_spin-spin.ensures ∙ ap is_spin c.class_of_lock.ensures) _
    c.requires.accepted

pub returns-clause-result : goal.returns-clause-result
returns-clause-result c =
    reply-told (seen_as c.self.invariant c.self.view_is) c.args.seat.0 c.args.lock
    c.is_spin-spin.result (c.is_spin-spin.ensures ∙ ap is_spin c.class_of_lock.ensures)
    c.acquire-acquisition.result c.acquire-acquisition.ensures.result

pub clear-requires : goal.clear-requires
clear-requires c =
    subst (λ (r : Seating). IsGiven r.seats c.args.seat.0) (sym c.acquire-acquisition.ensures.seats)
    (given-then c.acquire-acquisition.result c.args.seat.0 c.args.seat.0 c.is_spin-spin.result _
    c.self.inside.seats (given (seen_as c.self.invariant c.self.view_is) c.args.seat.0
    (Note c.args.lock) _ c.requires.accepted))

pub push_owed-requires : goal.push_owed-requires
push_owed-requires c =
    let less =
    note_owed (seen_as c.self.invariant c.self.view_is) c.args.seat.0 c.args.lock
    c.is_spin-spin.result (c.is_spin-spin.ensures ∙ ap is_spin c.class_of_lock.ensures)
    c.args.request c.requires.request c.acquire-acquisition.result
    (c.requires.accepted ∙ ap (λ r. Ok r)
    (sym (reply-told (seen_as c.self.invariant c.self.view_is) c.args.seat.0 c.args.lock
    c.is_spin-spin.result (c.is_spin-spin.ensures ∙ ap is_spin c.class_of_lock.ensures)
    c.acquire-acquisition.result c.acquire-acquisition.ensures.result))) in
    omega (arith, less, c.owed.ensures)

pub invariant_of-self : goal.invariant_of-self
invariant_of-self c =
    kept_let_go c.self.inside c.self.inside.known c.clear.new.self c.acquire-acquisition.new.watch c.push_owed.new.self _
    c.let_go.ensures (kept (
    kept_entered c.self.inside c.args.seat.0 _ _ _ _ _ _ _ _ c.clear.new.self
    c.acquire-acquisition.new.watch c.push_owed.new.self _
    (leaves_note (seen_as c.self.invariant c.self.view_is) c.args.seat.0 c.args.lock
    c.is_spin-spin.result (c.is_spin-spin.ensures ∙ ap is_spin c.class_of_lock.ensures)
    c.args.request c.requires.request c.acquire-acquisition.result
    (c.requires.accepted ∙ ap (λ r. Ok r)
    (sym (reply-told (seen_as c.self.invariant c.self.view_is) c.args.seat.0 c.args.lock
    c.is_spin-spin.result (c.is_spin-spin.ensures ∙ ap is_spin c.class_of_lock.ensures)
    c.acquire-acquisition.result c.acquire-acquisition.ensures.result))))
    refl (c.clear.ensures ∙ ap (with_seat c.args.seat.0 (asking None))
    c.acquire-acquisition.ensures.seats) c.acquire-acquisition.ensures.watch
    (c.push_owed.ensures ∙ ap₂ (noted_log c.self.inside.log c.args.seat.0 (Note c.args.lock))
    c.reply.ensures c.owed.ensures)
    c.self.invariant.tied.found c.self.invariant.tied (reply-logged c.acquire-acquisition.result)
    (accepted (seen_as c.self.invariant c.self.view_is) c.args.seat.0 (Note c.args.lock)
    (reply_to c.acquire-acquisition.result)
    (c.requires.accepted ∙ ap (λ r. Ok r)
    (sym (reply-told (seen_as c.self.invariant c.self.view_is) c.args.seat.0 c.args.lock
    c.is_spin-spin.result (c.is_spin-spin.ensures ∙ ap is_spin c.class_of_lock.ensures)
    c.acquire-acquisition.result c.acquire-acquisition.ensures.result))))))
