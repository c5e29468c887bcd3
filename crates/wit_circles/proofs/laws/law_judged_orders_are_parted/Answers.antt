use Rattle.wit_circles.proofs.Parted.{judged-parted, nothing-free}
use Rattle.wit_circles.proofs.Three.{three-met}
use Rattle.wit_circles.proofs.laws.law_judged_orders_are_parted.Goals as goal

pub returns-clause-parted : goal.returns-clause-parted
returns-clause-parted c = judged-parted

pub returns-clause-free : goal.returns-clause-free
returns-clause-free c = nothing-free

pub returns-clause-met : goal.returns-clause-met
returns-clause-met c = three-met
