use Rattle.wit_waiting.proofs.Waits.{seat-number}
use Rattle.wit_world.proofs.world.World.waits.Goals as goal

pub stage-requires : goal.stage-requires
stage-requires c = seat-number c.args.self.now.story c.args.seat.0 c.requires

pub is_held-requires : goal.is_held-requires
is_held-requires c = seat-number c.args.self.now.story c.args.seat.0 c.requires
