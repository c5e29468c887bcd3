use Rattle.std.proofs.Common.{string_bytes}
use Rattle.wit_model.specs.Trace.Views.{holder_text}
use Rattle.wit_report.proofs.Laid.{each_turn}
use Rattle.wit_report.proofs.held.put_holders.Goals as goal

pub loop-place-preserved : goal.loop-place-preserved
loop-place-preserved c =
    each_turn (holder_text c.args.verifier.now) c.loop-place.place (string_bytes c.args.text.now)
    (string_bytes c.loop-place.text) (string_bytes c.put_holder.new.text)
    c.loop-place.invariant c.in_ok-put_holder.ensures
