use Rattle.wit_world.specs.Kept.{scene_in}
use Rattle.wit_world.proofs.Keeping.{kept-named}
use Rattle.wit_world.proofs.world.World.file.Goals as goal

pub invariant_of-self : goal.invariant_of-self
invariant_of-self c =
    kept-named (scene_in c.self.inside) c.self.invariant c.args.name.now c.file.result
    c.file.new.self c.file.ensures
