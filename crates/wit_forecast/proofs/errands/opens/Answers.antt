use Rattle.std.proofs.Common.{ap, sym, ◌∙◌}
use Rattle.wit_forecast.specs.Errands.{without_field}
use Rattle.wit_forecast.proofs.Erring.{opens_so}
use Rattle.wit_forecast.proofs.errands.opens.Goals as goal

pub returns-then-is_alike : goal.returns-then-is_alike
returns-then-is_alike c = λ same.
    opens_so c.args.opening.now c.args.head.now c.one-item.result c.other-item.result
    c.in-len1-up.len_at_least c.one-item.is c.in-len1-up-head.len_at_least c.other-item.is
    (ap (λ l. without_field l 3) (sym c.deref.ensures.value) ∙ c.is_alike.ensures c.if-is_alike.true
    ∙ ap (λ l. without_field l 3) c.deref-in-len1-up-head.ensures.value)
    (c.are_same.ensures same)
