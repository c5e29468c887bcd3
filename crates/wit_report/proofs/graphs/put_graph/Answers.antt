use Rattle.std.proofs.Common.{◌<◌, length, string_bytes, subst}
use Rattle.wit_model.specs.Rules.State.{known_of}
use Rattle.wit_model.specs.Trace.Views.{edge_lines}
use Rattle.wit_report.proofs.Filled.{on-error, turn-filled}
use Rattle.wit_report.proofs.Laid.{each_turn}
use Rattle.wit_report.proofs.graphs.put_graph.Goals as goal

pub loop-place-preserved : goal.loop-place-preserved
loop-place-preserved c =
    let v = c.args.verifier.now in
    each_turn (edge_lines (known_of v.start v.history)) c.loop-place.place
    (string_bytes c.args.text.now) (string_bytes c.loop-place.text)
    (string_bytes c.put_edges.new.text) c.loop-place.invariant c.in_ok-put_edges.ensures.ok

pub returns-in_err-put_edges-clause-err : goal.returns-in_err-put_edges-clause-err
returns-in_err-put_edges-clause-err c =
    let v = c.args.verifier.now in
    let k = known_of v.start v.history in
    let place = c.loop-place.place in
    let before : place < length k.types =
    subst (λ n. place < n) c.types-place-end.ensures.value c.loop-place-test.true in
    on-error c.from_residual.result
    (turn-filled (edge_lines k) (length k.types) place before c.in_err-put_edges.ensures.err)
