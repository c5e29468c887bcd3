use Rattle.std.proofs.Common.{ap, sym, ◌∙◌}
use Rattle.wit_model.specs.World.Stages.{call_follows}
use Rattle.wit_world.specs.Stages.{stage_of}
use Rattle.wit_world.proofs.stages.Stage.may_call.Goals as goal

pub returns-in-NoteTry : goal.returns-in-NoteTry
returns-in-NoteTry c =
    c.has_tried.ensures (λ x. c.args.holds) c.in-NoteTry.field-2 ∙ ap
    (λ call. call_follows call (λ x. c.args.holds) (stage_of c.args.self)) (sym c.in-NoteTry.is)

pub returns-in-GiveUp : goal.returns-in-GiveUp
returns-in-GiveUp c =
    c.has_asked_for.ensures (λ x. c.args.holds)
    ∙ ap (λ call. call_follows call (λ x. c.args.holds) (stage_of c.args.self)) (sym c.in-GiveUp.is)

pub returns-in-Upgrade : goal.returns-in-Upgrade
returns-in-Upgrade c =
    c.has_raised.ensures (λ x. c.args.holds) ∙ ap
    (λ call. call_follows call (λ x. c.args.holds) (stage_of c.args.self)) (sym c.in-Upgrade.is)
