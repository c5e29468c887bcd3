use Rattle.wit_model.specs.Rules.Circles.{waits_for}
use Rattle.wit_model.specs.Rules.State.{state_of}
use Rattle.wit_waiting.proofs.Waits.{rows_more}
use Rattle.wit_core.proofs.verifier.Verifier.all_waiting.Goals as goal

pub loop-place-preserved : goal.loop-place-preserved
loop-place-preserved c =
    let s = c.args.self.now in
    rows_more (waits_for (state_of s)) s.start.sizes.seats c.loop-place.place
    c.loop-place.rows.items c.push.new.self.items c.in_ok-waiting.field-0 c.loop-place.invariant
    c.in_ok-waiting.ensures c.in_ok-push.ensures.items
