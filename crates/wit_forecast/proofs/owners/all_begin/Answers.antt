use Rattle.wit_forecast.specs.Owners.{lines_in, own, Begins}
use Rattle.wit_forecast.proofs.Owned.{up_to}
use Rattle.wit_forecast.proofs.owners.all_begin.Goals as goal

pub loop-seat-preserved : goal.loop-seat-preserved
loop-seat-preserved c =
    up_to (λ t. Begins (own t (lines_in c.args.chosen.now)) (own t (lines_in c.args.all.now)))
    c.loop-seat.seat c.loop-seat.invariant (c.in_ok-begins_of.ensures c.if-not-branch.false)
