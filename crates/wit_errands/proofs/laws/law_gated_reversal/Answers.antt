use Rattle.wit_errands.proofs.GatedRun.{gated-reverses, has-none}
use Rattle.wit_errands.proofs.laws.law_gated_reversal.Goals as goal

pub returns : goal.returns
returns c = record { report = gated-reverses; none = has-none }
