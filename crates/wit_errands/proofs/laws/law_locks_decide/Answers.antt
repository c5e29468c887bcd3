use Rattle.wit_errands.proofs.Replayed.{locks-decide}
use Rattle.wit_errands.proofs.laws.law_locks_decide.Goals as goal

pub returns : goal.returns
returns c = λ start files first deeds others settled begins free.
    locks-decide start files first deeds settled others begins free
