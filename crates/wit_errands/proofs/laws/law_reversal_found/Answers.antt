use Rattle.wit_errands.proofs.InTurn.{in_turn-reverses}
use Rattle.wit_errands.proofs.laws.law_reversal_found.Goals as goal

pub returns : goal.returns
returns c = in_turn-reverses
