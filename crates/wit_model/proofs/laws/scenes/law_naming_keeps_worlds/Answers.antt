use Rattle.wit_model.proofs.World.Calling.{world-named, shown-named}
use Rattle.wit_model.proofs.laws.scenes.law_naming_keeps_worlds.Goals as goal

pub returns : goal.returns
returns c =
    λ start files name w s world shown.
    (world-named start files name w world, shown-named start files name w s shown)
