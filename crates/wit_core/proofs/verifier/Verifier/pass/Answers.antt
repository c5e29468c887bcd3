use Rattle.std.proofs.Common.{arith, refl}
use Rattle.wit_model.specs.declared.calls.Call.TheVariants.{Check}
use Rattle.wit_model.specs.declared.calls.Reply.TheVariants.{Pass}
use Rattle.wit_model.proofs.Chains.Seats.{entry}
use Rattle.wit_core.proofs.Keeping.{kept_entered, log_after}
use Rattle.wit_core.proofs.Entries.Accepting.{accepted}
use Rattle.wit_core.proofs.Entries.Checking.{check_room, leaves_check}
use Rattle.wit_core.proofs.Seen.{seen_as}
use Rattle.wit_core.proofs.Unheld.{new-in}
use Rattle.wit_core.proofs.Whole.{kept, kept_let_go, kept_roomy}
use Rattle.wit_core.proofs.verifier.Verifier.pass.Goals as goal

pub invariant_of-self : goal.invariant_of-self
invariant_of-self c =
    kept_roomy c.self.inside c.self.inside.known c.reserve.new.self c.self.invariant refl
    c.reserve.ensures.same (omega arith) c.reserve.ensures.grows

pub push-requires-clause-room : goal.push-requires-clause-room
push-requires-clause-room c =
    check_room (seen_as c.self.invariant c.self.view_is) c.args.seat.0 c.args.request Pass
    c.reserve.new.self c.requires.passes c.reserve.ensures.same

pub invariant_of-self-2 : goal.invariant_of-self-2
invariant_of-self-2 c =
    let k = c.self.invariant.tied in
    let now = seen_as c.self.invariant c.self.view_is in
    kept_let_go c.self.inside c.self.inside.known c.ask_for.new.self c.self.inside.watch c.push.new.self _
    c.let_go.ensures (kept (
    kept_entered c.self.inside c.args.seat.0 (Check c.args.request) Pass _ _ _ _ _
    c.self.inside.known c.ask_for.new.self c.self.inside.watch c.push.new.self _
    (leaves_check now c.args.seat.0 c.args.request Pass c.requires.passes)
    refl c.ask_for.ensures refl
    (log_after c.self.inside.log c.reserve.new.self c.push.new.self
    (entry c.args.seat.0 (Check c.args.request) Pass) 2 _
    c.reserve.ensures.same c.push.ensures)
    k.found k refl
    (accepted now c.args.seat.0 (Check c.args.request) Pass c.requires.passes)))

pub ask_for-requires-clause-new : goal.ask_for-requires-clause-new
ask_for-requires-clause-new c =
    new-in (seen_as c.self.invariant c.self.view_is) c.args.seat.0 c.args.request
    c.requires.passes c.new_in-new_in.result c.new_in-new_in.ensures
