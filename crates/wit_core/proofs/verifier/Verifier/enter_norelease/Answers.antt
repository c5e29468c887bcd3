use Rattle.std.proofs.Common.{true, refl, ap, ◌∙◌, arith}
use Rattle.wit_model.specs.Rules.Types.{is_spin}
use Rattle.wit_model.specs.declared.calls.Call.TheVariants.{NoRelease}
use Rattle.wit_model.specs.declared.calls.Reply.TheVariants.{Done}
use Rattle.wit_core.proofs.Keeping.{kept_entered, log_after}
use Rattle.wit_core.proofs.Entries.Accepting.{accepted, given}
use Rattle.wit_core.proofs.Entries.Acquiring.{acquire_once}
use Rattle.wit_core.proofs.Seen.{seen_as}
use Rattle.wit_core.proofs.Turning.{mark_room, leaves_mark}
use Rattle.wit_core.proofs.Whole.{kept, kept_let_go, kept_roomy}
use Rattle.wit_core.proofs.verifier.Verifier.enter_norelease.Goals as goal

pub forbid-requires-clause-seat : goal.forbid-requires-clause-seat
forbid-requires-clause-seat c =
    given (seen_as c.self.invariant c.self.view_is) c.args.seat.0
    (NoRelease c.args.lock) Done c.requires

pub forbid-requires-clause-once : goal.forbid-requires-clause-once
forbid-requires-clause-once c =
    acquire_once (seen_as c.self.invariant c.self.view_is) c.args.seat.0 c.args.lock
    c.is_spin-spin.result (c.is_spin-spin.ensures ∙ ap is_spin c.class_of_lock.ensures)
    (NoRelease c.args.lock) Done c.requires

pub push-requires-clause-room : goal.push-requires-clause-room
push-requires-clause-room c =
    mark_room (seen_as c.self.invariant c.self.view_is) c.args.seat.0 c.args.lock true _ c.requires
    c.reserve.ensures.same

pub invariant_of-self-2 : goal.invariant_of-self-2
invariant_of-self-2 c =
    kept_let_go c.self.inside c.self.inside.known c.forbid.new.self c.self.inside.watch c.push.new.self _
    c.let_go.ensures (kept (
    kept_entered c.self.inside c.args.seat.0 _ _ _ _ _ _ _ _ c.forbid.new.self _ c.push.new.self _
    (leaves_mark (seen_as c.self.invariant c.self.view_is) c.args.seat.0 c.args.lock
    c.is_spin-spin.result (c.is_spin-spin.ensures ∙ ap is_spin c.class_of_lock.ensures)
    true c.requires)
    refl c.forbid.ensures refl (log_after c.self.inside.log c.reserve.new.self c.push.new.self _ 0 _
    c.reserve.ensures.same c.push.ensures)
    c.self.invariant.tied.found c.self.invariant.tied refl
    (accepted (seen_as c.self.invariant c.self.view_is) c.args.seat.0
    (NoRelease c.args.lock) Done c.requires)))

pub invariant_of-self : goal.invariant_of-self
invariant_of-self c =
    kept_roomy c.self.inside c.self.inside.known c.reserve.new.self c.self.invariant refl
    c.reserve.ensures.same (omega arith) c.reserve.ensures.grows
