use Rattle.std.proofs.Common.{ap, sym, ◌∙◌}
use Rattle.wit_forecast.specs.Errands.{doing, without_field}
use Rattle.wit_forecast.specs.Owners.{goes_on, lines_in}
use Rattle.wit_forecast.proofs.Erring.{follows_next}
use Rattle.wit_forecast.proofs.errands.+follows.Goals as goal

pub returns-then-is_alike : goal.returns-then-is_alike
returns-then-is_alike t c = λ follow.
    follows_next c.args.seat.now c.args.chosen.now c.line-item.result c.in-Some.first.now
    (doing c.args.from.now (lines_in c.args.lines.now))
    (doing c.args.from.now (lines_in c.in-Some.rest.now))
    c.in-len1-up.len_at_least c.line-item.is
    (ap (λ l. goes_on c.args.seat.now l) (sym c.deref.ensures.value) ∙ sym c.if-goes_on.ensures)
    (ap (λ l. without_field l 1) (sym c.deref-in-Some.ensures.value) ∙ c.is_alike.ensures c.if-is_alike.true
    ∙ ap (λ l. without_field l 1) c.deref-in-Some-2.ensures.value)
    c.in-Some.ensures (c.follows.ensures follow)
