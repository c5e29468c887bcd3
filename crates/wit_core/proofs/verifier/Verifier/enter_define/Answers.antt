use Rattle.std.proofs.Common.{rules, ◌≡◌, ◌+◌, ◌-◌, ◌∷◌, Option, None, Some, refl, subst, sym}
use Rattle.wit_model.specs.declared.calls.Call.TheVariants.{DefineOrder}
use Rattle.wit_model.proofs.Chains.Seats.{entry}
use Rattle.wit_core.specs.declared.ready.Ready.{Ready}
use Rattle.wit_core.specs.Kept.{IsKept}
use Rattle.wit_core.proofs.Keeping.{kept_entered, with_parts}
use Rattle.wit_core.proofs.Seen.{seen_as}
use Rattle.wit_core.proofs.Taught.{definable, defined-reply}
use Rattle.wit_core.proofs.Entries.Accepting.{accepted}
use Rattle.wit_core.proofs.Entries.Defining.{leaves_define}
use Rattle.wit_core.proofs.Entries.Plain.{plain_room}
use Rattle.wit_core.proofs.Readying.{is_ready, ready_answer}
use Rattle.wit_core.proofs.Whole.{kept}
use Rattle.wit_core.proofs.verifier.Verifier.enter_define.Goals as goal

pub define-requires-clause-apt : goal.define-requires-clause-apt
define-requires-clause-apt c =
    let k = c.self.invariant.tied in
    let now = seen_as c.self.invariant c.self.view_is in
    let r = c.unwrap-reply.result in
    let there : c.self.inside.ready ≡ Some r = search rules in
    let is = is_ready now r there in
    definable c.self.inside k c.args.seat.0 c.args.first c.args.second r.reply
    (accepted now c.args.seat.0 (DefineOrder c.args.first c.args.second) r.reply
    (ready_answer now r there c.args.seat.0 (DefineOrder c.args.first c.args.second) c.requires))
    is.logged

pub push-requires-clause-room : goal.push-requires-clause-room
push-requires-clause-room c =
    let k = c.self.invariant.tied in
    let now = seen_as c.self.invariant c.self.view_is in
    let r = c.unwrap-reply.result in
    let there : c.self.inside.ready ≡ Some r = search rules in
    let is = is_ready now r there in
    plain_room now c.args.seat.0 (DefineOrder c.args.first c.args.second) r.reply
    c.self.inside.log refl
    is.logged (ready_answer now r there c.args.seat.0 (DefineOrder c.args.first c.args.second)
    c.requires) refl

pub invariant_of-self : goal.invariant_of-self
invariant_of-self c =
    let k = c.self.invariant.tied in
    let now = seen_as c.self.invariant c.self.view_is in
    let r = c.unwrap-reply.result in
    let there : c.self.inside.ready ≡ Some r = search rules in
    let none : c.take.new.self ≡ None = search rules in
    let is = is_ready now r there in
    let told =
    ready_answer now r there c.args.seat.0
    (DefineOrder c.args.first c.args.second) c.requires in
    let ok = accepted now c.args.seat.0 (DefineOrder c.args.first c.args.second) r.reply told in
    subst (λ (o : Option Ready).
    IsKept (record (with_parts c.self.inside c.define.new.self c.self.inside.seats
    c.self.inside.watch c.push.new.self) { ready = o })) (sym none)
    (kept (
    kept_entered c.self.inside c.args.seat.0 (DefineOrder c.args.first c.args.second) r.reply _ _ _
    _ _ c.define.new.self c.self.inside.seats c.self.inside.watch c.push.new.self _
    (leaves_define now c.args.seat.0 c.args.first c.args.second r.reply told
    (defined-reply c.self.inside k c.args.seat.0 c.args.first c.args.second r.reply ok is.logged))
    c.define.ensures refl refl
    (subst (λ x. c.push.new.self ≡ record c.self.inside.log {
      history =
          entry c.args.seat.0 (DefineOrder c.args.first c.args.second) x
          ∷ c.self.inside.log.history;
      owed = c.self.inside.log.owed + 0;
      spare = c.self.inside.log.spare - 1;
    }) is.kept c.push.ensures)
    k.found k is.logged ok))

pub returns-clause-answer : goal.returns-clause-answer
returns-clause-answer c =
    let now = seen_as c.self.invariant c.self.view_is in
    let r = c.unwrap-reply.result in
    let there : c.self.inside.ready ≡ Some r = search rules in
    ready_answer now r there c.args.seat.0 (DefineOrder c.args.first c.args.second) c.requires
