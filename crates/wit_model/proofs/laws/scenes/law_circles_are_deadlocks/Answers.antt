use Rattle.wit_model.proofs.World.Circled.{circle-through, waits-world, waits-scene}
use Rattle.wit_model.proofs.laws.scenes.law_circles_are_deadlocks.Goals as goal

pub returns-clause-waits : goal.returns-clause-waits
returns-clause-waits c =
    λ start files w s t u shown.
    (waits-world start files w s shown t u, waits-scene start files w s shown t u)

pub returns-clause-circles : goal.returns-clause-circles
returns-clause-circles c = λ start files w s threads shown. (
  circle-through (waits-world start files w s shown) threads,
  circle-through (waits-scene start files w s shown) threads,
)
