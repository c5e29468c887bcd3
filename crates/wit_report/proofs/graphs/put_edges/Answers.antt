use Rattle.std.proofs.Common.{◌∙◌, ◌+◌, ◌<◌, length, sym, string_bytes, subst}
use Rattle.wit_model.specs.Rules.Orders.{is_direct}
use Rattle.wit_model.specs.Rules.State.{known_of}
use Rattle.wit_model.specs.Trace.Views.{edge_line}
use Rattle.wit_report.proofs.Filled.{on-error, edge-filled, some-filled}
use Rattle.wit_report.proofs.Laid.{some_turn, some_skip}
use Rattle.wit_report.proofs.graphs.put_edges.Goals as goal
use Rattle.wit_report.proofs.graphs.put_edges.Goals.{then-is_direct+in_ok-put_edge, else-is_direct}

pub loop-place-preserved : goal.loop-place-preserved
loop-place-preserved c =
    let v = c.args.verifier.now in
    let k = known_of v.start v.history in
    let parent = c.args.parent.0 in
    let place = c.loop-place.place in
    let before = string_bytes c.args.text.now in
    let now = string_bytes c.loop-place.text in
    elim c.if-is_direct.branch [
      | then-is_direct+in_ok-put_edge w ↦
          rw w.text-is
          (some_turn (is_direct k.orders parent) (edge_line k parent) place before now _
          (sym c.is_direct.ensures ∙ w.if-is_direct.true) c.loop-place.invariant
          w.in_ok-put_edge.ensures)
      | else-is_direct w ↦
          rw w.text-is (some_skip (is_direct k.orders parent) (edge_line k parent) place before now
          (sym c.is_direct.ensures ∙ w.if-is_direct.false) c.loop-place.invariant)
    ]

pub returns-in_err-put_edge-clause-err : goal.returns-in_err-put_edge-clause-err
returns-in_err-put_edge-clause-err c =
    let v = c.args.verifier.now in
    let k = known_of v.start v.history in
    let place = c.loop-place.place in
    let before : place < length k.types =
    subst (λ n. place < n) c.types-place-end.ensures.value c.loop-place-test.true in
    on-error c.from_residual.result
    (some-filled (is_direct k.orders c.args.parent.0) (edge_line k c.args.parent.0)
    (length k.types) place before
    (sym c.is_direct.ensures ∙ c.if-is_direct.true) (edge-filled k c.args.parent.0 (place + 1)))
