use Rattle.std.proofs.Common.{◌≡◌, true, ap, sym, subst, ◌∙◌, arith}
use Rattle.std.proofs.lemmas.List.{length-map}
use Rattle.wit_model.specs.Rules.State.{state_of, is_seat}
use Rattle.wit_model.specs.World.Scenes.{Scene, stage_at}
use Rattle.wit_world.specs.Kept.{scene_in}
use Rattle.wit_world.specs.Stages.{stage_of}
use Rattle.wit_world.proofs.Keeping.{seat-within}
use Rattle.wit_world.proofs.Stepped.{stage-now}
use Rattle.wit_world.proofs.world.World.stage.Goals as goal

pub index-requires : goal.index-requires
index-requires c =
    let seat =
    subst (λ (s : Scene). is_seat (state_of s.story) c.args.seat.0 ≡ true)
    (sym c.self.view_is) c.requires in
    let at = seat-within (scene_in c.self.inside) c.self.invariant c.args.seat.0 seat in
    omega (
      arith,
      at.0,
      at.1,
      length-map c.self.inside.stages.items stage_of,
      c.self.inside.stages.ok.0,
    )

pub returns : goal.returns
returns c =
    let seat =
    subst (λ (s : Scene). is_seat (state_of s.story) c.args.seat.0 ≡ true)
    (sym c.self.view_is) c.requires in
    let at = seat-within (scene_in c.self.inside) c.self.invariant c.args.seat.0 seat in
    stage-now c.self.inside.stages.items c.args.seat.0 c.index.result.now at.0
    (omega (arith, at.1, length-map c.self.inside.stages.items stage_of)) c.index.ensures
    ∙ ap (λ (s : Scene). stage_at s c.args.seat.0) c.self.view_is
