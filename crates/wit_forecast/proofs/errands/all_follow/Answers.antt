use Rattle.wit_forecast.specs.Errands.{HasErrand}
use Rattle.wit_forecast.specs.Owners.{lines_in}
use Rattle.wit_forecast.proofs.Owned.{up_to}
use Rattle.wit_forecast.proofs.errands.all_follow.Goals as goal

pub loop-seat-preserved : goal.loop-seat-preserved
loop-seat-preserved c =
    up_to (λ t. HasErrand c.args.own_alone (lines_in c.args.chosen.now) (lines_in c.args.body.now) t)
    c.loop-seat.seat c.loop-seat.invariant (
      c.claim_of-claim.result.from,
      (c.may_be.ensures c.if-not-may_be.false, c.in_ok-does_errand.ensures c.if-not-branch.false),
    )
