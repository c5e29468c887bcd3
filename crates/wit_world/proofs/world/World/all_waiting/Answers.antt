use Rattle.wit_model.specs.World.Shown.{waits_in}
use Rattle.wit_waiting.proofs.Waits.{rows_more}
use Rattle.wit_world.proofs.world.World.all_waiting.Goals as goal

pub loop-place-preserved : goal.loop-place-preserved
loop-place-preserved c =
    let s = c.args.self.now in
    rows_more (waits_in s) s.story.start.sizes.seats c.loop-place.place c.loop-place.rows.items
    c.push.new.self.items c.in_ok-waiting.field-0 c.loop-place.invariant
    c.in_ok-waiting.ensures c.in_ok-push.ensures.items
