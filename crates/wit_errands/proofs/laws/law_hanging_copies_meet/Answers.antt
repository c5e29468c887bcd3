use Rattle.wit_errands.proofs.Copied.{copies-meet}
use Rattle.wit_errands.proofs.laws.law_hanging_copies_meet.Goals as goal

pub returns : goal.returns
returns c = λ start files first deeds v copiers world circle all.
    copies-meet start files first deeds v copiers world circle all
