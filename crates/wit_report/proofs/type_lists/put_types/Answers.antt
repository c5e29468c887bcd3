use Rattle.std.proofs.Common.{◌+◌, ◌<◌, length, string_bytes, subst}
use Rattle.wit_model.specs.Rules.State.{state_of, types_of, live}
use Rattle.wit_model.specs.Trace.Views.{type_line}
use Rattle.wit_report.proofs.Filled.{on-error, type-filled, turn-filled}
use Rattle.wit_report.proofs.Laid.{each_turn}
use Rattle.wit_report.proofs.type_lists.put_types.Goals as goal

pub loop-place-preserved : goal.loop-place-preserved
loop-place-preserved c =
    let v = c.args.verifier.now in
    each_turn (type_line (types_of v.start v.history) (live (state_of v))) c.loop-place.place
    (string_bytes c.args.text.now) (string_bytes c.loop-place.text)
    (string_bytes c.put_type.new.text) c.loop-place.invariant c.in_ok-put_type.ensures

pub returns-in_err-put_type-clause-err : goal.returns-in_err-put_type-clause-err
returns-in_err-put_type-clause-err c =
    let v = c.args.verifier.now in
    let types = types_of v.start v.history in
    let place = c.loop-place.place in
    let before : place < length types =
    subst (λ n. place < n) c.types-place-end.ensures.value c.loop-place-test.true in
    on-error c.from_residual.result
    (turn-filled (type_line types (live (state_of v))) (length types) place before
    (type-filled types (live (state_of v)) (place + 1)))
