use Rattle.std.proofs.Common.{◌-◌, take, ap, sym, subst, ◌∙◌}
use Rattle.wit_model.specs.Rules.Start.{start_fault}
use Rattle.wit_model.specs.Trace.Moving.{with_feeds}
use Rattle.wit_migrate.specs.Migrates.{IsRefusedAt, kept_bytes, moved_to}
use Rattle.wit_lines.specs.Replays.{IsVerifierOf, prelude_of}
use Rattle.wit_migrate.proofs.MigrateLemmas.{refuses}
use Rattle.wit_migrate.proofs.preludes.reach.Goals as goal

pub returns-in-Keeping-clause-stands : goal.returns-in-Keeping-clause-stands
returns-in-Keeping-clause-stands c =
    let p = prelude_of c.in-Keeping.prelude in
    let n = c.args.number in
    let line = c.args.line.now in
    let text = c.in_ok-whole_lines-in-Err.field-0.items in (
      subst (λ m. IsRefusedAt (moved_to m) n line text (c.in-Err.list, c.in-Err.cause))
          c.in-Keeping.ensures.value
          (refuses p c.in-Keeping.kept.items n line (c.in-Err.list, c.in-Err.cause) text
          (sym c.is_prelude.ensures ∙ c.if-is_prelude.false)
          (subst (IsVerifierOf p (start_fault p.start)) c.in-Err.is
          c.in_ok-verifier-in-Keeping.ensures)
          (c.in_ok-whole_lines-in-Err.ensures
          ∙ ap (λ ls. with_feeds (kept_bytes ls)) (c.before-in-Err.ensures
          ∙ ap (λ ls. take (c.in-Err.list - 2) ls) c.deref-in-Err.ensures.value))),
      ap moved_to c.in-Keeping.ensures.after,
    )
