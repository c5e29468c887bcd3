-- A world as its callers see it, and what it keeps.
use Rattle.std.specs.Prelude.{List, map}
use Rattle.wit_model.specs.World.Deeds.{Deed}
use Rattle.wit_model.specs.World.Steps.{IsWorld}
use Rattle.wit_model.specs.World.Scenes.{Scene}
use Rattle.wit_model.specs.World.Shown.{Shows}
use Rattle.wit_world.specs.Stages.{stage_of}
use Rattle.wit_world.specs.declared.world.World.TheInside.{Inside}

abbrev pub scene_in : Inside → Scene
scene_in v = record { story = v.verifier; raw = v.raw; stages = map stage_of v.stages.items }

-- there is a world that it shows: deeds of threads, each of which could be done when it came
pub record IsKept (s : Scene) : Type 0 where
  pub deeds : List Deed
  pub world : IsWorld s.story.start s.story.files deeds
  pub shown : Shows s.story.start s.story.files deeds s
