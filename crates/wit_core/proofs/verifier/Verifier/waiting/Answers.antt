use Rattle.wit_model.specs.Rules.Circles.{waits_for}
use Rattle.wit_model.specs.Rules.State.{state_of}
use Rattle.wit_waiting.proofs.Waits.{waiting_more}
use Rattle.wit_core.proofs.verifier.Verifier.waiting.Goals as goal

pub loop-place-preserved : goal.loop-place-preserved
loop-place-preserved c =
    waiting_more (waits_for (state_of c.args.self.now)) c.loop-place.place c.args.other.0
    c.loop-place.row.items c.push.new.self.items _ c.loop-place.invariant
    c.waits.ensures c.in_ok-push.ensures.items
