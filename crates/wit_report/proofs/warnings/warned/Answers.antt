use Rattle.std.proofs.Common.{◌∙◌, ap, sym, arith}
use Rattle.std.proofs.lemmas.Bool.{eqb-true, eqb-false}
use Rattle.wit_model.specs.Rules.History.{is_on}
use Rattle.wit_model.specs.Rules.State.{state_of}
use Rattle.wit_report.proofs.Warned.{warned-alone, warned-both}
use Rattle.wit_report.proofs.warnings.warned.Goals as goal
use Rattle.wit_report.proofs.warnings.warned.Goals.{else-is_empty-via-then-is_empty+else-is_alone}
use Rattle.wit_report.proofs.warnings.warned.Goals.{else-is_empty-via-else-is_empty}

pub returns-then-is_alone : goal.returns-then-is_alone
returns-then-is_alone c =
    let zero = eqb-true _ _ (sym c.is_empty.ensures ∙ c.if-is_empty.true) in
    warned-alone (state_of c.args.verifier.now) c.args.seat.0 c.args.named c.args.flags
    (sym (c.is_on.ensures ∙ ap is_on c.watch.ensures) ∙ c.if-not-is_on.false)
    c.add_counted.new.held.items c.in_ok-spin.spin.items
    (rw (c.new-held.ensures.items, c.deref.ensures.value, c.in_ok-sleep.ensures) at
    c.in_ok-add_counted.ensures) c.in_ok-spin.ensures
    (omega (arith, zero, c.add_counted.new.held.ok.0))
    (rw c.deref-then-is_empty.ensures.value at c.if-is_alone.ensures)

pub returns : goal.returns
returns c =
    warned-both (state_of c.args.verifier.now) c.args.seat.0 c.args.named c.args.flags
    (sym (c.is_on.ensures ∙ ap is_on c.watch.ensures) ∙ c.if-not-is_on.false)
    c.add_counted.new.held.items c.in_ok-spin.spin.items
    (rw (c.new-held.ensures.items, c.deref.ensures.value, c.in_ok-sleep.ensures) at
    c.in_ok-add_counted.ensures) c.in_ok-spin.ensures c.add_all.new.held.items
    (rw c.deref-2.ensures.value at c.in_ok-add_all.ensures)
    (λ zero. elim c.else-is_empty.branch [
      | else-is_empty-via-then-is_empty+else-is_alone w ↦ rw w.deref-then-is_empty.ensures.value at
          w.if-is_alone.ensures
      | else-is_empty-via-else-is_empty w ↦ let some =
          eqb-false _ _ (sym c.is_empty.ensures ∙ w.if-is_empty.false) in
          absurd (some (omega (arith, zero, c.add_counted.new.held.ok.0)))
    ])
