use Rattle.std.proofs.Common.{refl, ap, ◌∙◌, arith}
use Rattle.wit_model.specs.Rules.Types.{is_spin}
use Rattle.wit_model.specs.declared.calls.Reply.TheVariants.{Done}
use Rattle.wit_core.specs.Turning.{turn_call}
use Rattle.wit_core.proofs.Keeping.{kept_entered, log_after, tried_log}
use Rattle.wit_core.proofs.Entries.Accepting.{accepted, given}
use Rattle.wit_core.proofs.Entries.Acquiring.{acquire_once}
use Rattle.wit_core.proofs.Seen.{seen_as}
use Rattle.wit_core.proofs.Turning.{turn_room, leaves_turn}
use Rattle.wit_core.proofs.Whole.{kept, kept_let_go, kept_roomy}
use Rattle.wit_core.proofs.verifier.Verifier.enter_turn.Goals as goal

pub turn-requires-clause-seat : goal.turn-requires-clause-seat
turn-requires-clause-seat c =
    given (seen_as c.self.invariant c.self.view_is) c.args.seat.0
    (turn_call c.args.mode c.args.lock) Done c.requires

pub turn-requires-clause-once : goal.turn-requires-clause-once
turn-requires-clause-once c =
    acquire_once (seen_as c.self.invariant c.self.view_is) c.args.seat.0 c.args.lock
    c.is_spin-spin.result (c.is_spin-spin.ensures ∙ ap is_spin c.class_of_lock.ensures)
    (turn_call c.args.mode c.args.lock) Done c.requires

pub push-requires-clause-room : goal.push-requires-clause-room
push-requires-clause-room c =
    turn_room (seen_as c.self.invariant c.self.view_is) c.args.seat.0 c.args.lock c.args.mode _
    c.requires c.reserve.ensures.same

pub invariant_of-self-2 : goal.invariant_of-self-2
invariant_of-self-2 c =
    kept_let_go c.self.inside c.self.inside.known c.turn.new.self c.self.inside.watch c.push.new.self _
    c.let_go.ensures (kept (
    kept_entered c.self.inside c.args.seat.0 _ _ _ _ _ _ _ _ c.turn.new.self _ c.push.new.self _
    (leaves_turn (seen_as c.self.invariant c.self.view_is) c.args.seat.0 c.args.lock
    c.is_spin-spin.result (c.is_spin-spin.ensures ∙ ap is_spin c.class_of_lock.ensures)
    c.args.mode c.requires)
    refl c.turn.ensures refl (log_after c.self.inside.log c.reserve.new.self c.push.new.self _ 0 _
    c.reserve.ensures.same c.push.ensures
    ∙ ap (λ call. tried_log c.self.inside.log c.reserve.new.self.spare c.args.seat.0 call Done 0)
    c.turn_call.ensures)
    c.self.invariant.tied.found c.self.invariant.tied refl
    (accepted (seen_as c.self.invariant c.self.view_is) c.args.seat.0
    (turn_call c.args.mode c.args.lock) Done c.requires)))

pub invariant_of-self : goal.invariant_of-self
invariant_of-self c =
    kept_roomy c.self.inside c.self.inside.known c.reserve.new.self c.self.invariant refl
    c.reserve.ensures.same (omega arith) c.reserve.ensures.grows
