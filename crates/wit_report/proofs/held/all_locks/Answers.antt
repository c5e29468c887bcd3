use Rattle.std.proofs.Common.{◌++◌, ◌∙◌, ap, arith}
use Rattle.std.specs.List.{flat_map, range_with_len}
use Rattle.wit_model.specs.Rules.State.{state_of, free}
use Rattle.wit_model.specs.Trace.Views.{holder_text}
use Rattle.wit_report.proofs.HeldLines.{free-written}
use Rattle.wit_report.proofs.held.all_locks.Goals as goal

pub returns-clause-ok : goal.returns-clause-ok
returns-clause-ok c =
    let v = c.args.verifier.now in
    let held = flat_map (holder_text v) (range_with_len 1 v.start.sizes.seats) in
    free-written held (free (state_of v)) (c.in_ok-put_holders.ensures
    ∙ ap (λ bytes. bytes ++ held) c.new-text.ensures.bytes) c.in_ok-push_str.ensures.bytes
    (rw c.free_chunks.ensures at c.in_ok-put_number.ensures)
    (rw (c.push.ensures.ascii (omega arith)) at c.in_ok-push.ensures.bytes)
