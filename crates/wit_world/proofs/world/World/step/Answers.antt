use Rattle.std.proofs.Common.{◌≡◌, true, Ok, refl, ap, sym, subst, ◌∙◌, arith}
use Rattle.std.proofs.lemmas.List.{length-map}
use Rattle.wit_model.specs.Rules.State.{state_of, is_seat}
use Rattle.wit_model.specs.World.Scenes.{Scene, stage_at, mode_asked, deed_of, stepped, step_raw}
use Rattle.wit_world.specs.Kept.{scene_in, IsKept}
use Rattle.wit_world.specs.Stages.{stage_of}
use Rattle.wit_world.proofs.Keeping.{seat-within, kept-stepped}
use Rattle.wit_world.proofs.Stepped.{stepped-now}
use Rattle.wit_world.proofs.world.World.step.Goals as goal

pub index_mut-requires : goal.index_mut-requires
index_mut-requires c =
    let seat =
    subst (λ (s : Scene). is_seat (state_of s.story) c.args.seat.0 ≡ true)
    (sym c.self.view_is) c.in_ok-before_step.ensures.seat in
    let at = seat-within (scene_in c.self.inside) c.self.invariant c.args.seat.0 seat in
    omega (
      arith,
      at.0,
      at.1,
      length-map c.self.inside.stages.items stage_of,
      c.self.inside.stages.ok.0,
    )

pub invariant_of-self-2 : goal.invariant_of-self-2
invariant_of-self-2 c =
    let v = scene_in c.self.inside in
    let t = c.args.seat.0 in
    let l = c.args.lock.0 in
    let step = c.args.step in
    let seat =
    subst (λ (s : Scene). is_seat (state_of s.story) t ≡ true)
    (sym c.self.view_is) c.in_ok-before_step.ensures.seat in
    let at = seat-within v c.self.invariant t seat in
    let mode =
    c.mode_asked-asked.ensures ∙ ap mode_asked
    (c.stage.ensures ∙ ap (λ (s : Scene). stage_at s t) (sym c.self.view_is)) in
    let now =
    stepped-now v t l step c.mode_asked-asked.result c.change.new.raw c.self.inside.stages.items
    c.in_ok-after.after refl at.0 mode c.in_ok-after.ensures.raw
    c.in_ok-after.ensures.stage in
    let ok =
    subst (λ (s : Scene). step_raw s t l step
    ≡ Ok (stepped s (deed_of (stage_at s t) t l step)))
    (sym c.self.view_is) c.in_ok-before_step.ensures.ok in
    subst IsKept (sym now) (kept-stepped v c.self.invariant t l step ok)

pub returns : goal.returns
returns c =
    let v = scene_in c.self.inside in
    let t = c.args.seat.0 in
    let l = c.args.lock.0 in
    let step = c.args.step in
    let seat =
    subst (λ (s : Scene). is_seat (state_of s.story) t ≡ true)
    (sym c.self.view_is) c.in_ok-before_step.ensures.seat in
    let at = seat-within v c.self.invariant t seat in
    let mode =
    c.mode_asked-asked.ensures ∙ ap mode_asked
    (c.stage.ensures ∙ ap (λ (s : Scene). stage_at s t) (sym c.self.view_is)) in
    let now =
    stepped-now v t l step c.mode_asked-asked.result c.change.new.raw c.self.inside.stages.items
    c.in_ok-after.after refl at.0 mode c.in_ok-after.ensures.raw
    c.in_ok-after.ensures.stage in
    c.in_ok-before_step.ensures.ok ∙ ap (λ x. Ok x)
    (sym (now ∙ ap (λ (s : Scene). stepped s (deed_of (stage_at s t) t l step)) c.self.view_is))
