use Rattle.std.proofs.Common.{◌≡◌, ◌+◌, true, nat_lt, ap, ap₂, sym, subst, ◌∙◌, arith}
use Rattle.std.proofs.lemmas.Bool.{le-ltb}
use Rattle.wit_model.specs.Rules.History.{num}
use Rattle.wit_model.specs.Rules.State.{state_of, is_seat}
use Rattle.wit_model.specs.World.Scenes.{Scene, shares_of}
use Rattle.wit_world.specs.Kept.{scene_in}
use Rattle.wit_world.proofs.Keeping.{num-some, num-none}
use Rattle.wit_world.proofs.world.World.has_fewer.Goals as goal

pub returns-in-Some : goal.returns-in-Some
returns-in-Some c =
    let t = c.args.seat.0 in
    let l = c.args.lock.0 in
    let seat =
    subst (λ (s : Scene). is_seat (state_of s.story) t ≡ true)
    (sym c.self.view_is) c.requires in
    ap₂ nat_lt c.shares.ensures
    (ap (λ n. n + 1) c.from.ensures
    ∙ sym (num-some (scene_in c.self.inside) c.self.invariant t l seat c.in-Some.again
    (sym c.recorded.ensures ∙ c.in-Some.is)))
    ∙ ap (λ (s : Scene). nat_lt (shares_of s.raw t l) (num t l s.story.history)) c.self.view_is

pub returns-in-None : goal.returns-in-None
returns-in-None c =
    let t = c.args.seat.0 in
    let l = c.args.lock.0 in
    let seat =
    subst (λ (s : Scene). is_seat (state_of s.story) t ≡ true)
    (sym c.self.view_is) c.requires in
    let had = shares_of c.self.inside.raw t l in
    sym (ap (nat_lt had) (num-none (scene_in c.self.inside) c.self.invariant t l seat
    (sym c.recorded.ensures ∙ c.in-None.is)) ∙ le-ltb had 0 (omega arith))
    ∙ ap (λ (s : Scene). nat_lt (shares_of s.raw t l) (num t l s.story.history)) c.self.view_is
