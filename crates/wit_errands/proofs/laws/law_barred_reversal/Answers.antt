use Rattle.wit_errands.proofs.BarredRun.{barred-reverses, has-none}
use Rattle.wit_errands.proofs.laws.law_barred_reversal.Goals as goal

pub returns : goal.returns
returns c = record { report = barred-reverses; none = has-none }
