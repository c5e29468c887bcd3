use Rattle.std.proofs.Common.{ap, ◌∙◌, ◌++◌, ◌∷◌, [], take}
use Rattle.std.proofs.lemmas.List.{take_all}
use Rattle.wit_model.specs.Trace.Moving.{with_feeds}
use Rattle.wit_migrate.specs.Migrates.{kept_bytes}
use Rattle.wit_migrate.proofs.MigrateLemmas.{feeds-more}
use Rattle.wit_migrate.proofs.texts.whole_lines.Goals as goal

pub loop-line-preserved : goal.loop-line-preserved
loop-line-preserved c =
    c.in_ok-put_line.ensures
    ∙ ap (λ t. t ++ (c.deref.result.now ++ 10 ∷ [])) c.loop-line.invariant
    ∙ ap (λ x. with_feeds (kept_bytes (take c.loop-line.line-index c.args.lines.now))
    ++ (x ++ 10 ∷ [])) c.deref.ensures.value
    ∙ feeds-more c.args.lines.now c.loop-line.line-index c.line-item.result c.loop-line-test.true
    c.line-item.is

pub returns : goal.returns
returns c =
    c.loop-line.invariant
    ∙ ap (λ xs. with_feeds (kept_bytes xs))
    (take_all c.loop-line.line-index c.args.lines.now c.loop-line-test.false)
