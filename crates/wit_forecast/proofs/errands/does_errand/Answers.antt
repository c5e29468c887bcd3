use Rattle.std.proofs.Common.{subst, ◌∙◌, drop}
use Rattle.wit_forecast.specs.Errands.{doing, Follows}
use Rattle.wit_forecast.specs.Owners.{field, going_on, lines_in}
use Rattle.wit_forecast.proofs.Erring.{is_errand}
use Rattle.wit_forecast.proofs.errands.does_errand.Goals as goal

pub returns : goal.returns
returns c = λ follow.
    let chosen = lines_in c.args.chosen.now in
    let later = lines_in (drop c.args.claim.first c.args.body.now) in
    is_errand c.args.seat c.args.claim.from c.args.claim.first c.args.rests.now c.args.chosen.now
    c.args.body.now c.requires (c.had_nothing.ensures c.if-not-had_nothing.false)
    (subst (λ f. Follows (going_on f chosen) (doing (field c.args.claim.from) later))
    (c.deref.ensures.value ∙ c.in_ok-seat.ensures)
    (subst (λ f. Follows (going_on c.deref.result.now chosen) (doing f later))
    (c.deref-2.ensures.value ∙ c.in_ok-from.ensures)
    (subst (λ ls. Follows (going_on c.deref.result.now chosen) (doing c.deref-2.result.now (lines_in ls)))
    c.split_at.ensures.back (c.follows.ensures follow))))
