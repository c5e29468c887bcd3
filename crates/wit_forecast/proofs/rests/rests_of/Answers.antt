use Rattle.std.proofs.Common.{◌≡◌, ◌∷◌, [], true, ap, sym, ◌∙◌, arith}
use Rattle.std.proofs.lemmas.Grind.{get_or_default_zero}
use Rattle.wit_forecast.specs.Errands.{doing, had}
use Rattle.wit_forecast.specs.Owners.{field, goes_on}
use Rattle.wit_forecast.proofs.Resting.{kept_next}
use Rattle.wit_forecast.proofs.rests.rests_of.Goals as goal

pub loop-place-preserved : goal.loop-place-preserved
loop-place-preserved c =
    let line = c.index-body-place.result in
    let seat = c.from-number.result in
    let shares = c.index-shares.result.now in
    let kept = c.loop-place.invariant in
    let own : goes_on (field seat) line.items ≡ true =
    ap (λ l. goes_on (field seat) l) (sym c.deref.ensures.value)
    ∙ ap (λ f. goes_on f c.deref.result.now)
    (ap field c.from-number.ensures ∙ sym c.in_ok-field.ensures
    ∙ sym c.deref-else-number-ge-SEATS.ensures.value)
    ∙ sym c.if-not-goes_on.ensures in
    kept_next c.loop-place.had.items c.loop-place.rests.items c.push.new.self.items c.args.body.now line
    seat shares c.in-Some-shares_after.after c.loop-place.place c.rested.result kept
    c.loop-place-test.true c.index-body-place.is c.if-number-ge-SEATS.false own
    (c.index-shares.ensures
    ∙ get_or_default_zero c.loop-place.had.items seat shares
    (omega (arith, kept.0, c.if-number-ge-SEATS.false)))
    (c.in-Some-shares_after.ensures (field seat)
    (ap (λ l. goes_on (field seat) l) c.deref-in-loop-place.ensures.value ∙ own)
    ∙ ap (λ l. had shares (doing (field seat) (l ∷ []))) c.deref-in-loop-place.ensures.value)
    (λ number told.
    let rested = c.rested.ensures number told in
    (rested.0 ∙ sym c.from-number.ensures, rested.1))
    c.in_ok-push.ensures.items
