use Rattle.wit_recordings.proofs.Unreported.{circle_free-clean}
use Rattle.wit_orders.proofs.Circles.{no-told_circle}
use Rattle.wit_orders.proofs.laws.law_acyclic_histories.Goals as goal

pub returns-clause-none : goal.returns-clause-none
returns-clause-none c = no-told_circle

pub returns-clause-clean : goal.returns-clause-clean
returns-clause-clean c = λ input start files h listless legal free is within.
    circle_free-clean start files h listless legal free (no-told_circle input h is within)
