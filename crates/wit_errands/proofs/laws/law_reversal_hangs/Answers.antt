use Rattle.wit_errands.proofs.Reversed.{hangs}
use Rattle.wit_errands.proofs.laws.law_reversal_hangs.Goals as goal

pub returns : goal.returns
returns c = λ start files first deeds t u a b settled other one two free.
    hangs start files first deeds settled t u a b other free one two
