use Rattle.std.proofs.Common.{◌++◌, ◌∷◌, List, ℕ, Some, refl, ap, sym, subst, ◌∙◌, arith}
use Rattle.wit_model.specs.Trace.Moving.{kept_lines, moving_from, with_feeds}
use Rattle.wit_model.specs.Trace.Output.{bad_text}
use Rattle.wit_migrate.specs.Migrates.{IsMigrated, ReachesLine, moved_to}
use Rattle.wit_stream.specs.declared.summary.Summary.{Summary}
use Rattle.wit_migrate.proofs.MigrateLemmas.{line-goes, line-bad, ended-moved}
use Rattle.wit_migrate.proofs.MigrateReports.{written_one}
use Rattle.wit_migrate.proofs.Weights.{written_weighs}
use Rattle.wit_migrate.proofs.migrating.Migrating.opening_line.Goals as goal

pub returns-in_ok-text-in-Ok : goal.returns-in_ok-text-in-Ok
returns-in_ok-text-in-Ok c = (
  let old = moved_to c.args.self.now in
      let q = moved_to c.reach.new.self in
      let n = c.args.number in
      let line = c.args.bytes.now in
      let before = c.in_ok-reached.reached.text.items in
      let over =
      subst (ReachesLine old n line q before) c.in_default.is c.in_ok-reached.ensures.stands in
      let text = c.in_ok-text-in-Ok.ensures ∙ ap (λ t. before ++ t) c.deref.ensures.value in
      λ lines tail more summary h.
      subst (λ t. IsMigrated (moving_from old n (line ∷ lines) tail) (t ++ more) summary) (sym text)
      (line-goes old q n line before over (moved_to c.read.new.self) c.in-Ok.more.items
      c.in-Ok.ensures lines tail more summary h),
  record {
    counts =
        let one =
        written_one (moved_to c.reach.new.self) (moved_to c.read.new.self) c.args.number
        c.args.bytes.now c.in-Ok.more.items c.in-Ok.ensures in
        let before = c.in_ok-reached.ensures.counted in
        omega (arith, one, before);
    weighs =
        let one =
        written_weighs (moved_to c.reach.new.self) (moved_to c.read.new.self) c.args.number
        c.args.bytes.now c.in-Ok.more.items c.in-Ok.ensures in
        let before = c.in_ok-reached.ensures.weighed in
        omega (arith, one, before);
  },
)

pub returns-in-Err-Bad : goal.returns-in-Err-Bad
returns-in-Err-Bad c =
    let old = moved_to c.args.self.now in
    let q = moved_to c.reach.new.self in
    let n = c.args.number in
    let line = c.args.bytes.now in
    let cause = c.in-Err-Bad.cause in
    let found = c.found-found.result in
    let before = c.in_ok-reached.reached.text.items in
    let over =
    subst (ReachesLine old n line q before) c.in_default.is c.in_ok-reached.ensures.stands in
    let bad = rw c.in-Err-Bad.field-0-is at c.in-Err-Bad.ensures in
    let text : List ℕ =
    before ++ (with_feeds (kept_lines (moved_to c.read.new.self)) ++ bad_text n cause) in
    let summary : Summary = record found { bad = Some (n, cause) } in
    let written = c.ended_step-in-Err-Bad.new.text.items in
    ended-moved c.args.self.now c.ended_step-in-Err-Bad.new.self n line text summary written
    c.ended_step-in-Err-Bad.result c.ended_step-in-Err-Bad.ensures.step
    c.ended_step-in-Err-Bad.ensures.over
    (line-bad old q n line before over cause found summary text bad.0
    (ap (λ ls. before ++ (with_feeds ls ++ bad_text n cause)) bad.1) c.found-found.ensures.total
    c.found-found.ensures.circle refl)
