use Rattle.std.proofs.Common.{refl}
use Rattle.wit_model.proofs.World.Barred.{waiting-barred, barred-waiting}
use Rattle.wit_model.proofs.laws.worlds.law_waiting_is_barred.Goals as goal

pub returns-clause-barred : goal.returns-clause-barred
returns-clause-barred c = λ start files w t u x world. waiting-barred start files w world t u x

pub returns-clause-waits : goal.returns-clause-waits
returns-clause-waits c = barred-waiting

pub returns-clause-two : goal.returns-clause-two
returns-clause-two c = λ w t waits. waits.another refl
