use Rattle.std.proofs.Common.{◌≤◌, refl, arith, subst}
use Rattle.wit_core.proofs.Entries.Accepting.{accepted}
use Rattle.wit_core.proofs.Seen.{seen_as}
use Rattle.wit_core.proofs.Whole.{kept_made_ready, kept_roomy}
use Rattle.wit_core.specs.Plans.{planned_call}
use Rattle.wit_core.proofs.verifier.Verifier.make_ready.Goals as goal

pub invariant_of-self : goal.invariant_of-self
invariant_of-self c =
    kept_roomy c.self.inside c.self.inside.known c.reserve.new.self c.self.invariant refl
    c.reserve.ensures.same (omega arith) c.reserve.ensures.grows

pub invariant_of-self-in_err-make_room : goal.invariant_of-self-in_err-make_room
invariant_of-self-in_err-make_room c =
    kept_roomy c.self.inside c.make_room.new.self c.reserve.new.self c.self.invariant
    c.make_room.ensures.same c.reserve.ensures.same
    c.make_room.ensures.grows c.reserve.ensures.grows

pub invariant_of-self-2 : goal.invariant_of-self-2
invariant_of-self-2 c =
    kept_made_ready c.self.inside c.make_room.new.self c.reserve.new.self
    (record {
      seat = c.args.seat;
      plan = c.args.plan;
      reply = c.args.reply;
      kept = c.in_ok-kept.kept;
    }) c.self.invariant
    c.make_room.ensures.same c.reserve.ensures.same
    (accepted (seen_as c.self.invariant c.self.view_is) c.args.seat.0
    (planned_call c.args.plan) c.args.reply c.requires.answer)
    c.in_ok-kept.ensures c.requires.logged
    (subst (λ n. n ≤ c.reserve.new.self.spare) c.entries.ensures c.in_ok-reserve.ensures.ok)
    c.in_ok-make_room.ensures.ok
