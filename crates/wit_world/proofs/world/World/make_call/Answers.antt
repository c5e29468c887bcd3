use Rattle.std.proofs.Common.{◌≡◌, Bool, true, ◌&&◌, cond, nat_lt, ◌++◌, ◌∷◌, [], length, Ok, refl}
use Rattle.std.proofs.Common.{ap, sym, subst, ◌∙◌, arith}
use Rattle.std.proofs.lemmas.List.{length-map}
use Rattle.wit_model.specs.Rules.History.{num}
use Rattle.wit_model.specs.Rules.State.{state_of, is_seat}
use Rattle.wit_model.specs.Rules.Step.{answer_of}
use Rattle.wit_model.specs.World.Stages.{stage_called}
use Rattle.wit_model.specs.World.Scenes.{Scene, nobodys, shares_of, answer_in, scene_after}
use Rattle.wit_world.specs.Kept.{scene_in, IsKept}
use Rattle.wit_world.specs.Stages.{stage_of}
use Rattle.wit_world.proofs.Keeping.{seat-within, kept-called}
use Rattle.wit_world.proofs.Ladder.{and-then, and-else}
use Rattle.wit_world.proofs.Stepped.{raw-few, called-now}
use Rattle.wit_world.proofs.world.World.make_call.Goals as goal
use Rattle.wit_world.proofs.world.World.make_call.Goals.{then-makes, else-makes}

pub make-requires : goal.make-requires
make-requires c =
    let raw = raw-few (scene_in c.self.inside) c.self.invariant in
    let logs = ap (λ (s : Scene). length s.story.history) c.self.view_is in
    let count = c.entries-entries.ensures.count in
    let few = c.entries-entries.ensures.few in
    omega (arith, raw, logs, count, few)

pub index_mut-requires : goal.index_mut-requires
index_mut-requires c =
    let seat =
    subst (λ (s : Scene). is_seat (state_of s.story) c.args.seat.0 ≡ true)
    (sym c.self.view_is) c.in_ok-before_call.ensures.seat in
    let at = seat-within (scene_in c.self.inside) c.self.invariant c.args.seat.0 seat in
    omega (
      arith,
      at.0,
      at.1,
      length-map c.self.inside.stages.items stage_of,
      c.self.inside.stages.ok.0,
    )

pub invariant_of-self-2 : goal.invariant_of-self-2
invariant_of-self-2 c =
    let v = scene_in c.self.inside in
    let t = c.args.seat.0 in
    let call = c.args.call in
    let r = c.in_ok-reply.reply in
    let seat =
    subst (λ (s : Scene). is_seat (state_of s.story) t ≡ true)
    (sym c.self.view_is) c.in_ok-before_call.ensures.seat in
    let at = seat-within v c.self.invariant t seat in
    let both : c.if-makes.make ≡ (c.makes_lock-makes.result && c.is_logged-kept.result) =
    elim c.if-makes.branch [
      | then-makes w ↦ w.make-is ∙ and-then c.makes_lock-makes.result c.is_logged-kept.result
          w.if-makes.true
      | else-makes w ↦ w.make-is ∙ and-else c.makes_lock-makes.result c.is_logged-kept.result
          w.if-makes.false
    ] in
    let now =
    called-now v t call r c.call.new.self c.make.new.raw c.self.inside.stages.items
    c.either.result c.stage_called-logged.result c.stage_passed-passed.result
    c.makes_lock-makes.result
    c.is_logged-kept.result refl at.0 c.in_ok-reply.ensures.answer.1 c.is_logged-kept.ensures
    c.makes_lock-makes.ensures
    (c.make.ensures ∙ ap (λ (b : Bool). cond b (c.self.inside.raw ++ nobodys ∷ [])
    c.self.inside.raw) both)
    (c.stage_called-logged.ensures
    ∙ ap (λ (s : Scene). stage_called
    (λ l. nat_lt (shares_of s.raw t l) (num t l s.story.history)) call)
    (sym c.self.view_is))
    c.stage_passed-passed.ensures c.either.ensures in
    let same =
    subst (λ (s : Scene). answer_in s t call ≡ answer_of s.story t call)
    (sym c.self.view_is) c.in_ok-before_call.ensures.ok in
    subst IsKept (sym now) (kept-called v c.self.invariant t call r
    (same ∙ c.in_ok-reply.ensures.answer.0))

pub returns-clause-answer : goal.returns-clause-answer
returns-clause-answer c =
    let v = scene_in c.self.inside in
    let t = c.args.seat.0 in
    let call = c.args.call in
    let r = c.in_ok-reply.reply in
    let seat =
    subst (λ (s : Scene). is_seat (state_of s.story) t ≡ true)
    (sym c.self.view_is) c.in_ok-before_call.ensures.seat in
    let at = seat-within v c.self.invariant t seat in
    let both : c.if-makes.make ≡ (c.makes_lock-makes.result && c.is_logged-kept.result) =
    elim c.if-makes.branch [
      | then-makes w ↦ w.make-is ∙ and-then c.makes_lock-makes.result c.is_logged-kept.result
          w.if-makes.true
      | else-makes w ↦ w.make-is ∙ and-else c.makes_lock-makes.result c.is_logged-kept.result
          w.if-makes.false
    ] in
    let now =
    called-now v t call r c.call.new.self c.make.new.raw c.self.inside.stages.items
    c.either.result c.stage_called-logged.result c.stage_passed-passed.result
    c.makes_lock-makes.result
    c.is_logged-kept.result refl at.0 c.in_ok-reply.ensures.answer.1 c.is_logged-kept.ensures
    c.makes_lock-makes.ensures
    (c.make.ensures ∙ ap (λ (b : Bool). cond b (c.self.inside.raw ++ nobodys ∷ [])
    c.self.inside.raw) both)
    (c.stage_called-logged.ensures
    ∙ ap (λ (s : Scene). stage_called
    (λ l. nat_lt (shares_of s.raw t l) (num t l s.story.history)) call)
    (sym c.self.view_is))
    c.stage_passed-passed.ensures c.either.ensures in
    let same =
    subst (λ (s : Scene). answer_in s t call ≡ answer_of s.story t call)
    (sym c.self.view_is) c.in_ok-before_call.ensures.ok in (
      subst (λ (s : Scene). answer_in s t call ≡ Ok r) c.self.view_is
          (same ∙ c.in_ok-reply.ensures.answer.0),
      now ∙ ap (λ (s : Scene). scene_after s t call r) c.self.view_is,
    )

pub returns-clause-surely : goal.returns-clause-surely
returns-clause-surely c = λ few. returns-clause-answer c
