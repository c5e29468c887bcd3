use Rattle.std.proofs.Common.{rules, ◌≡◌, ◌+◌, ◌-◌, ◌∷◌, Option, None, Some, refl, subst, sym}
use Rattle.wit_model.specs.declared.calls.Call.TheVariants.{Check}
use Rattle.wit_model.proofs.Chains.Seats.{entry}
use Rattle.wit_core.specs.declared.ready.Ready.{Ready}
use Rattle.wit_core.specs.Kept.{IsKept}
use Rattle.wit_core.proofs.Keeping.{kept_entered, with_parts}
use Rattle.wit_core.proofs.Entries.Accepting.{accepted}
use Rattle.wit_core.proofs.Entries.Checking.{check_room, leaves_check}
use Rattle.wit_core.proofs.Readying.{is_ready, ready_answer}
use Rattle.wit_core.proofs.Seen.{seen_as}
use Rattle.wit_core.proofs.Taught.{apt, found-told}
use Rattle.wit_core.proofs.Whole.{kept}
use Rattle.wit_core.proofs.verifier.Verifier.enter_check.Goals as goal

pub learn-requires-clause-apt : goal.learn-requires-clause-apt
learn-requires-clause-apt c =
    let k = c.self.invariant.tied in
    let now = seen_as c.self.invariant c.self.view_is in
    let r = c.unwrap-reply.result in
    let there : c.self.inside.ready ≡ Some r = search rules in
    apt c.self.inside k c.args.seat.0 c.args.request r.reply
    (accepted now c.args.seat.0 (Check c.args.request) r.reply
    (ready_answer now r there c.args.seat.0 (Check c.args.request) c.requires))

pub push-requires-clause-room : goal.push-requires-clause-room
push-requires-clause-room c =
    let k = c.self.invariant.tied in
    let now = seen_as c.self.invariant c.self.view_is in
    let r = c.unwrap-reply.result in
    let there : c.self.inside.ready ≡ Some r = search rules in
    check_room now c.args.seat.0 c.args.request r.reply c.self.inside.log
    (ready_answer now r there c.args.seat.0 (Check c.args.request) c.requires) refl

pub invariant_of-self : goal.invariant_of-self
invariant_of-self c =
    let k = c.self.invariant.tied in
    let now = seen_as c.self.invariant c.self.view_is in
    let r = c.unwrap-reply.result in
    let there : c.self.inside.ready ≡ Some r = search rules in
    let none : c.take.new.self ≡ None = search rules in
    let is = is_ready now r there in
    let ok = ready_answer now r there c.args.seat.0 (Check c.args.request) c.requires in
    subst (λ (o : Option Ready).
    IsKept (record (with_parts c.self.inside c.learn.new.self c.ask.new.self c.self.inside.watch
    c.push.new.self) { ready = o })) (sym none)
    (kept (
    kept_entered c.self.inside c.args.seat.0 (Check c.args.request) r.reply _ _ _ _ _
    c.learn.new.self c.ask.new.self c.self.inside.watch c.push.new.self _
    (leaves_check now c.args.seat.0 c.args.request r.reply ok)
    c.learn.ensures.rest c.ask.ensures refl
    (subst (λ x. c.push.new.self ≡ record c.self.inside.log {
      history = entry c.args.seat.0 (Check c.args.request) x ∷ c.self.inside.log.history;
      owed = c.self.inside.log.owed + 2;
      spare = c.self.inside.log.spare - 3;
    }) is.kept c.push.ensures)
    (found-told c.self.inside k r.reply c.learn.new.self.known.found c.learn.ensures.found) k
    is.logged
    (accepted now c.args.seat.0 (Check c.args.request) r.reply ok)))
