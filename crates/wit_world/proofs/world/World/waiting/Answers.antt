use Rattle.wit_model.specs.World.Shown.{waits_in}
use Rattle.wit_waiting.proofs.Waits.{waiting_more}
use Rattle.wit_world.proofs.world.World.waiting.Goals as goal

pub loop-place-preserved : goal.loop-place-preserved
loop-place-preserved c =
    waiting_more (waits_in c.args.self.now) c.loop-place.place c.args.other.0 c.loop-place.row.items
    c.push.new.self.items _ c.loop-place.invariant
    c.waits.ensures c.in_ok-push.ensures.items
