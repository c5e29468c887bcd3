use Rattle.std.proofs.Common.{[], refl, ap, sym, ◌∙◌, subst}
use Rattle.wit_model.specs.declared.calls.Call.TheVariants.{GiveUp}
use Rattle.wit_model.specs.Rules.State.{Story}
use Rattle.wit_model.specs.Rules.Step.{Answers}
use Rattle.wit_seats.specs.declared.views.Journal.{Journal}
use Rattle.wit_seats.specs.Rule.{journal}
use Rattle.wit_shared.proofs.Staying.{stays_so}
use Rattle.wit_shared.proofs.Steps.{answers, may_follow, tells}
use Rattle.wit_shared.proofs.desk.Desk.give_up.Goals as goal

pub follow-requires : goal.follow-requires
follow-requires g c = record {
  start =
      (answers c.self.inside.verifier c.args.seat.now.seat
      (GiveUp c.args.lock) c.give_up-answer.result c.give_up-answer.new.self
      (subst (λ t. Answers c.self.inside.verifier t
      (GiveUp c.args.lock) c.give_up-answer.result c.give_up-answer.new.self) c.number.ensures
      c.give_up-answer.ensures)).start ∙ c.self.invariant.0;
  grows =
      may_follow c.self.inside.keeper c.self.inside.verifier c.give_up-answer.new.self
      c.self.inside.handed c.args.seat.now.seat c.self.invariant.1
      (answers c.self.inside.verifier c.args.seat.now.seat
      (GiveUp c.args.lock) c.give_up-answer.result c.give_up-answer.new.self
      (subst (λ t. Answers c.self.inside.verifier t
      (GiveUp c.args.lock) c.give_up-answer.result c.give_up-answer.new.self)
      c.number.ensures c.give_up-answer.ensures));
}

pub invariant_of-self : goal.invariant_of-self
invariant_of-self g c = (
  (answers c.self.inside.verifier c.args.seat.now.seat
      (GiveUp c.args.lock) c.give_up-answer.result c.give_up-answer.new.self
      (subst (λ t. Answers c.self.inside.verifier t
      (GiveUp c.args.lock) c.give_up-answer.result c.give_up-answer.new.self) c.number.ensures
      c.give_up-answer.ensures)).start ∙ c.self.invariant.0,
  c.follow.ensures.kept ∙ ap (λ (j : Journal). journal c.give_up-answer.new.self.history
      c.give_up-answer.new.self.files j.handed) c.self.invariant.1,
  c.self.invariant.2 ∙ sym (stays_so c.self.inside.verifier c.number.result.0
      (GiveUp c.args.lock) c.give_up-answer.result c.give_up-answer.new.self
      c.give_up-answer.ensures (λ reply. refl)),
)

pub returns : goal.returns
returns g c =
    tells g.J.Room.start [] (λ (s new : Story). Answers s c.args.seat.now.seat
    (GiveUp c.args.lock) c.give_up-answer.result new) c.self.inside.keeper
    c.self.inside.verifier c.give_up-answer.new.self
    c.self.inside.handed c.args.seat.now c.follow.new.seat c.self.invariant.0 c.self.invariant.1
    c.follow.ensures.entered (subst
    (λ t. Answers c.self.inside.verifier t (GiveUp c.args.lock) c.give_up-answer.result
    c.give_up-answer.new.self) c.number.ensures c.give_up-answer.ensures)
