use Rattle.std.proofs.Common.{refl}
use Rattle.wit_duty.proofs.Twice.{twice-world, twice-recorded, once-legal, twice-kept, second-waits}
use Rattle.wit_duty.proofs.laws.law_asked_twice.Goals as goal

pub returns-clause-recorded : goal.returns-clause-recorded
returns-clause-recorded c = twice-kept

pub returns-clause-waits : goal.returns-clause-waits
returns-clause-waits c = second-waits

pub returns-clause-met : goal.returns-clause-met
returns-clause-met c = (twice-world, (twice-recorded, (refl, (refl, (once-legal, refl)))))
