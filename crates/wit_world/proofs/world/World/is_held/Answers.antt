use Rattle.std.proofs.Common.{◌≡◌, true, is_some, ap, sym, subst, ◌∙◌}
use Rattle.wit_model.specs.Rules.History.{is_held}
use Rattle.wit_model.specs.Rules.State.{state_of, is_seat}
use Rattle.wit_model.specs.World.Scenes.{Scene}
use Rattle.wit_world.specs.Kept.{scene_in}
use Rattle.wit_world.proofs.Keeping.{held-is}
use Rattle.wit_world.proofs.world.World.is_held.Goals as goal

pub returns : goal.returns
returns c =
    let t = c.args.seat.0 in
    let l = c.args.lock.0 in
    let seat =
    subst (λ (s : Scene). is_seat (state_of s.story) t ≡ true)
    (sym c.self.view_is) c.requires in
    c.is_some.ensures ∙ ap is_some c.recorded.ensures
    ∙ held-is (scene_in c.self.inside) c.self.invariant t l seat
    ∙ ap (λ (s : Scene). is_held t l s.story.history) c.self.view_is
