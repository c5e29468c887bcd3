use Rattle.std.proofs.Common.{◌≡◌, ℕ, ◌&&◌, List, ◌∷◌, ◌++◌}
use Rattle.std.proofs.Common.{ap, sym, ◌∙◌, subst}
use Rattle.std.specs.List.{list_any}
use Rattle.wit_alarms.specs.Facts.{can_wait, no_reasons, of_both}
use Rattle.wit_alarms.specs.Searching.{IsEnough}
use Rattle.wit_alarms.proofs.Fewer.{without_either, none-left}
use Rattle.wit_alarms.proofs.pruning.swept.Goals as goal

pub loop-first-preserved : goal.loop-first-preserved
loop-first-preserved c =
    let facts = c.args.facts.now in
    let kept = c.loop-first.kept.items in
    let first = c.in-Some.field-0-0.now in
    let others = c.in-Some.others.now in
    let rest : c.loop-first.rest.now ≡ first ∷ others = c.in-Some.ensures.cases.0 in
    without_either facts kept others first
    (subst (λ r. IsEnough facts (kept ++ r)) rest c.loop-first.invariant)
    (ap (λ (xs : List ℕ). list_any (of_both (can_wait no_reasons) facts first) xs
    && list_any (λ k. of_both (can_wait no_reasons) facts k first) xs)
    (ap (λ r. kept ++ r) (sym rest)
    ∙ ap (λ k. k ++ c.loop-first.rest.now) (sym c.deref.ensures.value))
    ∙ (sym c.is_between.ensures ∙ c.if-is_between.false))

pub returns : goal.returns
returns c =
    none-left c.args.facts.now c.loop-first.kept.items c.loop-first.rest.now
    c.in_default.ensures.cases c.loop-first.invariant
