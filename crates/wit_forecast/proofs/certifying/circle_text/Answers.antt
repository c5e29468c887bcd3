use Rattle.std.proofs.Common.{◌++◌, ap, sym, ◌∙◌, append_assoc}
use Rattle.wit_model.specs.Trace.Moving.{with_feeds}
use Rattle.wit_forecast.specs.Owners.{lines_in}
use Rattle.wit_forecast.proofs.Joined.{feeds-both}
use Rattle.wit_forecast.proofs.certifying.circle_text.Goals as goal

pub returns-clause-text : goal.returns-clause-text
returns-clause-text c =
    let prelude = lines_in c.args.prelude.now in
    let made = lines_in c.args.made.now in
    let chosen = lines_in c.args.chosen.now in
    c.in_ok-put_lines-3.ensures
    ∙ ap (λ l. l ++ with_feeds chosen)
    (c.in_ok-put_lines-2.ensures
    ∙ ap (λ l. l ++ with_feeds made)
    (c.in_ok-put_lines.ensures ∙ ap (λ l. l ++ with_feeds prelude) c.new-text.ensures.items))
    ∙ append_assoc (with_feeds prelude) (with_feeds made) (with_feeds chosen)
    ∙ ap (λ l. with_feeds prelude ++ l) (sym (feeds-both made chosen))
    ∙ sym (feeds-both prelude (made ++ chosen))
