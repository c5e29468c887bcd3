use Rattle.std.proofs.Common.{refl, arith}
use Rattle.wit_model.specs.declared.calls.Call.TheVariants.{Destroy}
use Rattle.wit_model.specs.declared.calls.Reply.TheVariants.{Done}
use Rattle.wit_core.proofs.Keeping.{kept_entered, log_after}
use Rattle.wit_core.proofs.Entries.Accepting.{accepted}
use Rattle.wit_core.proofs.Entries.Destroying.{destroyed_live, destroyed_typed, leaves_destroy}
use Rattle.wit_core.proofs.Entries.Plain.{plain_room}
use Rattle.wit_core.proofs.Seen.{seen_as}
use Rattle.wit_core.proofs.Whole.{kept, kept_let_go, kept_roomy}
use Rattle.wit_core.proofs.verifier.Verifier.enter_destroy.Goals as goal

pub destroy-requires-clause-live : goal.destroy-requires-clause-live
destroy-requires-clause-live c =
    destroyed_live (seen_as c.self.invariant c.self.view_is) c.args.seat.0 c.args.lock c.requires

pub destroy-requires-clause-typed : goal.destroy-requires-clause-typed
destroy-requires-clause-typed c =
    destroyed_typed (seen_as c.self.invariant c.self.view_is) c.args.seat.0 c.args.lock c.requires

pub push-requires-clause-room : goal.push-requires-clause-room
push-requires-clause-room c =
    plain_room (seen_as c.self.invariant c.self.view_is) c.args.seat.0
    (Destroy c.args.lock) Done _ refl refl c.requires c.reserve.ensures.same

pub invariant_of-self-2 : goal.invariant_of-self-2
invariant_of-self-2 c =
    kept_let_go c.self.inside c.destroy.new.self c.self.inside.seats c.self.inside.watch c.push.new.self _
    c.let_go.ensures (kept (
    kept_entered c.self.inside c.args.seat.0 _ _ _ _ _ _ _ _ c.self.inside.seats c.self.inside.watch
    c.push.new.self _
    (leaves_destroy (seen_as c.self.invariant c.self.view_is) c.args.seat.0 c.args.lock c.requires)
    c.destroy.ensures refl refl (log_after c.self.inside.log c.reserve.new.self c.push.new.self _ 0
    _ c.reserve.ensures.same c.push.ensures)
    c.self.invariant.tied.found c.self.invariant.tied refl
    (accepted (seen_as c.self.invariant c.self.view_is) c.args.seat.0
    (Destroy c.args.lock) Done c.requires)))

pub invariant_of-self : goal.invariant_of-self
invariant_of-self c =
    kept_roomy c.self.inside c.self.inside.known c.reserve.new.self c.self.invariant refl
    c.reserve.ensures.same (omega arith) c.reserve.ensures.grows
