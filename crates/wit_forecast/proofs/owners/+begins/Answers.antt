use Rattle.std.proofs.Common.{ap, sym, ◌∙◌}
use Rattle.std.specs.Cmp.Lexicographic.{same_text}
use Rattle.wit_forecast.specs.Owners.{lines_in, goes_on, going_on}
use Rattle.wit_forecast.proofs.Owned.{begins_next}
use Rattle.wit_forecast.proofs.owners.+begins.Goals as goal

pub returns-then-eq : goal.returns-then-eq
returns-then-eq t c = λ begin.
    begins_next c.args.field.now c.args.chosen.now c.line-item.result c.in-Some.first.now
    (going_on c.args.field.now (lines_in c.args.all.now))
    (going_on c.args.field.now (lines_in c.in-Some.rest.now))
    c.in-len1-up.len_at_least c.line-item.is
    (ap (λ l. goes_on c.args.field.now l) (sym c.deref.ensures.value) ∙ sym c.if-goes_on.ensures)
    (same_text c.in-Some.first.now.items c.line-item.result.items c.if-eq.ensures)
    c.in-Some.ensures (c.begins.ensures begin)
