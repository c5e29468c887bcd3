use Rattle.wit_model.proofs.World.Exclusion.{exclusive_alone}
use Rattle.wit_model.proofs.laws.worlds.law_exclusive_alone.Goals as goal

pub returns : goal.returns
returns c =
    λ start files w t u l world other one two.
    exclusive_alone start files w t u l world other one two
