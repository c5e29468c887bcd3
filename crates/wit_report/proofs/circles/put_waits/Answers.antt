use Rattle.std.proofs.Common.{◌∙◌, string_bytes, arith, refl}
use Rattle.wit_model.specs.Rules.State.{state_of}
use Rattle.wit_report.proofs.ViewLines.{wait-turn}
use Rattle.wit_report.proofs.circles.put_waits.Goals as goal

pub loop-next-preserved : goal.loop-next-preserved
loop-next-preserved c =
    wait-turn (state_of c.args.verifier.now) c.args.others.now c.args.first.0 c.loop-next.next-index
    c.loop-next.seat _ (record { 0 = 0 }) (string_bytes c.loop-next.text)
    (string_bytes c.put_wait.new.text) (omega arith) refl c.in_ok-put_wait.ensures
    ∙ c.loop-next.invariant
