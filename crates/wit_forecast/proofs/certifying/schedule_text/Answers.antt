use Rattle.std.proofs.Common.{◌++◌, ap₂, sym, ◌∙◌}
use Rattle.std.proofs.lemmas.List.{take-append-drop}
use Rattle.wit_forecast.proofs.Certified.{is_schedule}
use Rattle.wit_forecast.proofs.certifying.schedule_text.Goals as goal

pub returns : goal.returns
returns c =
    is_schedule c.args.lines.now c.split_at.result.0.now c.split_at.result.1.now c.args.chosen.now
    c.circle_text.result
    (sym (take-append-drop c.args.head c.args.lines.now)
    ∙ sym (ap₂ (λ a b. a ++ b) c.split_at.ensures.front c.split_at.ensures.back))
    (c.in_ok-all_begin.ensures c.if-not-branch.false) c.circle_text.ensures.ends
    c.circle_text.ensures.text
