use Rattle.std.proofs.Common.{true, not, refl, ap, sym, ◌∙◌}
use Rattle.wit_model.specs.declared.calls.Call.TheVariants.{GiveUp}
use Rattle.wit_model.specs.Rules.History.{is_held}
use Rattle.wit_model.specs.World.Stages.{call_follows}
use Rattle.wit_model.specs.World.Scenes.{stage_at, deed_of, may_come}
use Rattle.wit_world.proofs.Ladder.{and-then, and-else, may-take}
use Rattle.wit_world.proofs.world.World.may_step.Goals as goal

pub returns-then-has_asked_for : goal.returns-then-has_asked_for
returns-then-has_asked_for c =
    let s = c.args.self.now in
    let t = c.args.seat.0 in
    let l = c.args.lock.0 in
    let asks =
    c.has_asked_for.ensures (λ x. true)
    ∙ ap (λ at. call_follows (GiveUp c.args.lock) (λ x. true) at) c.stage-stage.ensures in
    ap not c.is_held.ensures ∙ and-then
    (call_follows (GiveUp c.args.lock) (λ x. true) (stage_at s t))
    (not (is_held t l s.story.history)) (sym asks ∙ c.if-has_asked_for.true)
    ∙ sym (may-take s t l c.args.lock refl)
    ∙ ap (λ step. may_come s (deed_of (stage_at s t) t l step)) (sym c.in-Take.is)

pub returns-else-has_asked_for : goal.returns-else-has_asked_for
returns-else-has_asked_for c =
    let s = c.args.self.now in
    let t = c.args.seat.0 in
    let l = c.args.lock.0 in
    let asks =
    c.has_asked_for.ensures (λ x. true)
    ∙ ap (λ at. call_follows (GiveUp c.args.lock) (λ x. true) at) c.stage-stage.ensures in
    asks ∙ and-else (call_follows (GiveUp c.args.lock) (λ x. true) (stage_at s t))
    (not (is_held t l s.story.history)) (sym asks ∙ c.if-has_asked_for.false)
    ∙ sym (may-take s t l c.args.lock refl)
    ∙ ap (λ step. may_come s (deed_of (stage_at s t) t l step)) (sym c.in-Take.is)
