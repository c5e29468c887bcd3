use Rattle.std.proofs.Common.{[], refl, ap, sym, ◌∙◌, subst}
use Rattle.std.specs.Option.{option_copied}
use Rattle.wit_model.specs.declared.calls.Call.TheVariants.{Init}
use Rattle.wit_model.specs.Rules.State.{Story}
use Rattle.wit_model.specs.Rules.Step.{AnswersOrFails}
use Rattle.wit_core.specs.Replies.{new_lock, made_reply}
use Rattle.wit_seats.specs.declared.views.Journal.{Journal}
use Rattle.wit_seats.specs.Rule.{journal}
use Rattle.wit_shared.proofs.Staying.{stays_or_fails}
use Rattle.wit_shared.proofs.Steps.{fails, may_follow, tells}
use Rattle.wit_shared.proofs.desk.Desk.init.Goals as goal

pub follow-requires : goal.follow-requires
follow-requires g c = record {
  start =
      (fails c.self.inside.verifier c.args.seat.now.seat
      (Init (new_lock c.args.name.now (option_copied c.args.type_name) c.args.class
      c.args.flags)) (made_reply c.init-answer.result) c.init-answer.new.self
      (subst (λ t. AnswersOrFails c.self.inside.verifier t
      (Init (new_lock c.args.name.now (option_copied c.args.type_name) c.args.class
      c.args.flags)) (made_reply c.init-answer.result) c.init-answer.new.self) c.number.ensures
      c.init-answer.ensures)).start ∙ c.self.invariant.0;
  grows =
      may_follow c.self.inside.keeper c.self.inside.verifier c.init-answer.new.self
      c.self.inside.handed c.args.seat.now.seat c.self.invariant.1
      (fails c.self.inside.verifier c.args.seat.now.seat
      (Init (new_lock c.args.name.now (option_copied c.args.type_name) c.args.class
      c.args.flags)) (made_reply c.init-answer.result) c.init-answer.new.self
      (subst (λ t. AnswersOrFails c.self.inside.verifier t
      (Init (new_lock c.args.name.now (option_copied c.args.type_name) c.args.class
      c.args.flags)) (made_reply c.init-answer.result) c.init-answer.new.self)
      c.number.ensures c.init-answer.ensures));
}

pub invariant_of-self : goal.invariant_of-self
invariant_of-self g c = (
  (fails c.self.inside.verifier c.args.seat.now.seat
      (Init (new_lock c.args.name.now (option_copied c.args.type_name) c.args.class c.args.flags))
      (made_reply c.init-answer.result) c.init-answer.new.self
      (subst (λ t. AnswersOrFails c.self.inside.verifier t
      (Init (new_lock c.args.name.now (option_copied c.args.type_name) c.args.class
      c.args.flags)) (made_reply c.init-answer.result) c.init-answer.new.self) c.number.ensures
      c.init-answer.ensures)).start ∙ c.self.invariant.0,
  c.follow.ensures.kept ∙ ap (λ (j : Journal). journal c.init-answer.new.self.history
      c.init-answer.new.self.files j.handed) c.self.invariant.1,
  c.self.invariant.2 ∙ sym (stays_or_fails c.self.inside.verifier c.number.result.0
      (Init (new_lock c.args.name.now (option_copied c.args.type_name) c.args.class c.args.flags))
      (made_reply c.init-answer.result) c.init-answer.new.self c.init-answer.ensures
      (λ reply. refl)),
)

pub returns : goal.returns
returns g c =
    tells g.J.Room.start [] (λ (s new : Story). AnswersOrFails s c.args.seat.now.seat
    (Init (new_lock c.args.name.now (option_copied c.args.type_name) c.args.class c.args.flags))
    (made_reply c.init-answer.result) new) c.self.inside.keeper c.self.inside.verifier
    c.init-answer.new.self
    c.self.inside.handed c.args.seat.now c.follow.new.seat c.self.invariant.0 c.self.invariant.1
    c.follow.ensures.entered (subst
    (λ t. AnswersOrFails c.self.inside.verifier t
    (Init (new_lock c.args.name.now (option_copied c.args.type_name) c.args.class
    c.args.flags)) (made_reply c.init-answer.result) c.init-answer.new.self)
    c.number.ensures c.init-answer.ensures)
