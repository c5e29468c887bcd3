use Rattle.std.proofs.Common.{◌≡◌, ◌<◌, ◌++◌, ◌∙◌, ap, sym, length, string_bytes, arith}
use Rattle.std.proofs.lemmas.Bool.{eqb-true, eqb-false}
use Rattle.std.specs.Fmt.{decimal}
use Rattle.wit_model.specs.Rules.State.{typed_locks}
use Rattle.wit_model.specs.Trace.Views.{warn_text}
use Rattle.wit_report.proofs.Warned.{warn-none, warn-written}
use Rattle.wit_report.proofs.warnings.warned_text.Goals as goal

pub returns-then-is_empty-clause-ok : goal.returns-then-is_empty-clause-ok
returns-then-is_empty-clause-ok c =
    let v = c.args.verifier.now in
    let held = c.in_ok-held.held in
    let zero = eqb-true _ _ (sym c.is_empty.ensures ∙ c.if-is_empty.true) in
    c.new-text.ensures.bytes
    ∙ warn-none (typed_locks v.start v.history) v.files held.items (omega (arith, zero, held.ok.0))
    ∙ ap (warn_text (typed_locks v.start v.history) v.files) c.in_ok-held.ensures

pub returns-clause-ok : goal.returns-clause-ok
returns-clause-ok c =
    let v = c.args.verifier.now in
    let held = c.in_ok-held.held in
    let count : c.len.result ≡ length held.items = omega (arith, c.len.ensures, held.ok.0) in
    let some = eqb-false _ _ (sym c.is_empty.ensures ∙ c.if-is_empty.false) in
    let more : 0 < length held.items = omega (arith, some, held.ok.0) in
    warn-written (typed_locks v.start v.history) v.files held.items more c.new-text.ensures.bytes
    (c.in_ok-put_number.ensures ∙ ap (λ n. string_bytes c.new-text.result ++ decimal n) count)
    c.in_ok-push_str.ensures.bytes
    (rw c.deref.ensures.value at c.in_ok-put_all.ensures)
    ∙ ap (warn_text (typed_locks v.start v.history) v.files) c.in_ok-held.ensures
