use Rattle.wit_model.proofs.World.Noted.{try_noted, only_shared_raised}
use Rattle.wit_model.proofs.laws.worlds.law_modes_are_had.Goals as goal

pub returns-clause-noted : goal.returns-clause-noted
returns-clause-noted c =
    λ start files w t l mode site reply world. try_noted start files w t l mode site reply world

pub returns-clause-raised : goal.returns-clause-raised
returns-clause-raised c = λ start files w t l world. only_shared_raised start files w t l world
