use Rattle.std.proofs.Common.{Ok, ap, ap₂, sym, ◌∙◌, refl, arith}
use Rattle.wit_model.specs.Rules.Types.{is_spin}
use Rattle.wit_model.specs.declared.calls.Call.TheVariants.{NoteTry}
use Rattle.wit_core.specs.Acquiring.{reply_to}
use Rattle.wit_core.proofs.Keeping.{kept_entered, log_after, tried_log}
use Rattle.wit_core.proofs.Entries.Accepting.{accepted, given}
use Rattle.wit_core.proofs.Entries.Acquiring.{owed-few, reply-logged, reply-told, acquire_once}
use Rattle.wit_core.proofs.Entries.Acquiring.{try_shallow, try_room, leaves_try}
use Rattle.wit_core.proofs.Seen.{seen_as}
use Rattle.wit_core.proofs.Whole.{kept, kept_let_go, kept_roomy}
use Rattle.wit_core.proofs.verifier.Verifier.enter_try.Goals as goal

pub acquire-acquisition-requires-clause-seat : goal.acquire-acquisition-requires-clause-seat
acquire-acquisition-requires-clause-seat c =
    given (seen_as c.self.invariant c.self.view_is) c.args.seat.0
    (NoteTry c.args.lock c.args.mode c.args.site) _ c.requires

pub acquire-acquisition-requires-clause-once : goal.acquire-acquisition-requires-clause-once
acquire-acquisition-requires-clause-once c =
    acquire_once (seen_as c.self.invariant c.self.view_is) c.args.seat.0 c.args.lock
    c.is_spin-spin.result (c.is_spin-spin.ensures ∙ ap is_spin c.class_of_lock.ensures)
    (NoteTry c.args.lock c.args.mode c.args.site) _ c.requires

pub acquire-acquisition-requires-clause-shallow : goal.acquire-acquisition-requires-clause-shallow
acquire-acquisition-requires-clause-shallow c =
    try_shallow (seen_as c.self.invariant c.self.view_is) c.args.seat.0 c.args.lock
    c.is_spin-spin.result (c.is_spin-spin.ensures ∙ ap is_spin c.class_of_lock.ensures)
    c.args.mode c.args.site _ c.requires

pub push-requires-clause-spare : goal.push-requires-clause-spare
push-requires-clause-spare c =
    omega (arith, owed-few c.acquire-acquisition.result, c.owed.ensures, c.in_ok-reserve.ensures.ok)

pub push-requires-clause-room : goal.push-requires-clause-room
push-requires-clause-room c =
    let room =
    try_room (seen_as c.self.invariant c.self.view_is) c.args.seat.0 c.args.lock c.args.mode
    c.args.site c.acquire-acquisition.result c.reserve.new.self
    (c.requires ∙ ap (λ r. Ok r)
    (sym (reply-told (seen_as c.self.invariant c.self.view_is) c.args.seat.0 c.args.lock
    c.is_spin-spin.result (c.is_spin-spin.ensures ∙ ap is_spin c.class_of_lock.ensures)
    c.acquire-acquisition.result c.acquire-acquisition.ensures.result)))
    c.reserve.ensures.same in
    omega (arith, room, c.owed.ensures)

pub returns-clause-result : goal.returns-clause-result
returns-clause-result c =
    reply-told (seen_as c.self.invariant c.self.view_is) c.args.seat.0 c.args.lock
    c.is_spin-spin.result (c.is_spin-spin.ensures ∙ ap is_spin c.class_of_lock.ensures)
    c.acquire-acquisition.result c.acquire-acquisition.ensures.result

pub invariant_of-self-2 : goal.invariant_of-self-2
invariant_of-self-2 c =
    kept_let_go c.self.inside c.self.inside.known c.acquire-acquisition.new.seats c.acquire-acquisition.new.watch c.push.new.self _
    c.let_go.ensures (kept (
    kept_entered c.self.inside c.args.seat.0 _ _ _ _ _ _ _ _ c.acquire-acquisition.new.seats
    c.acquire-acquisition.new.watch c.push.new.self _
    (leaves_try (seen_as c.self.invariant c.self.view_is) c.args.seat.0 c.args.lock
    c.is_spin-spin.result (c.is_spin-spin.ensures ∙ ap is_spin c.class_of_lock.ensures)
    c.args.mode c.args.site c.acquire-acquisition.result
    (c.requires ∙ ap (λ r. Ok r)
    (sym (reply-told (seen_as c.self.invariant c.self.view_is) c.args.seat.0 c.args.lock
    c.is_spin-spin.result (c.is_spin-spin.ensures ∙ ap is_spin c.class_of_lock.ensures)
    c.acquire-acquisition.result c.acquire-acquisition.ensures.result))))
    refl c.acquire-acquisition.ensures.seats c.acquire-acquisition.ensures.watch
    (log_after c.self.inside.log c.reserve.new.self c.push.new.self _ _ _ c.reserve.ensures.same
    c.push.ensures
    ∙ ap₂ (tried_log c.self.inside.log c.reserve.new.self.spare c.args.seat.0
    (NoteTry c.args.lock c.args.mode c.args.site)) c.reply.ensures c.owed.ensures)
    c.self.invariant.tied.found c.self.invariant.tied (reply-logged c.acquire-acquisition.result)
    (accepted (seen_as c.self.invariant c.self.view_is) c.args.seat.0
    (NoteTry c.args.lock c.args.mode c.args.site) (reply_to c.acquire-acquisition.result)
    (c.requires ∙ ap (λ r. Ok r)
    (sym (reply-told (seen_as c.self.invariant c.self.view_is) c.args.seat.0 c.args.lock
    c.is_spin-spin.result (c.is_spin-spin.ensures ∙ ap is_spin c.class_of_lock.ensures)
    c.acquire-acquisition.result c.acquire-acquisition.ensures.result))))))

pub invariant_of-self : goal.invariant_of-self
invariant_of-self c =
    kept_roomy c.self.inside c.self.inside.known c.reserve.new.self c.self.invariant refl
    c.reserve.ensures.same (omega arith) c.reserve.ensures.grows
