use Rattle.std.proofs.Common.{◌++◌, ap₂, sym, subst, ◌∙◌}
use Rattle.std.proofs.lemmas.List.{take-append-drop}
use Rattle.wit_forecast.specs.Errands.{making}
use Rattle.wit_forecast.specs.Owners.{lines_in, Begins}
use Rattle.wit_forecast.proofs.Certified.{is_meeting}
use Rattle.wit_forecast.proofs.certifying.meeting_text.Goals as goal

pub returns : goal.returns
returns c =
    is_meeting c.args.plan.now.own_alone c.args.lines.now c.split_at.result.0.now c.split_at.result.1.now
    c.args.plan.now.opening.now c.deref.result.now c.args.plan.now.chosen.now c.circle_text.result
    (sym (take-append-drop c.args.head c.args.lines.now)
    ∙ sym (ap₂ (λ a b. a ++ b) c.split_at.ensures.front c.split_at.ensures.back))
    (c.opens.ensures c.if-not-opens.false)
    (subst (λ made. Begins (lines_in made) (making (lines_in c.split_at.result.1.now)))
    (sym c.deref.ensures.value) c.in_ok-made.ensures)
    (c.in_ok-all_follow.ensures c.if-not-branch.false) c.circle_text.ensures.ends
    c.circle_text.ensures.text
