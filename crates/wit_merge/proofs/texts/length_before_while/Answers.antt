use Rattle.std.proofs.Common.{◌∙◌, ap, length, sym, arith}
use Rattle.wit_merge.specs.Texts.{begins_while}
use Rattle.wit_merge.proofs.Origins.{before_while-at}
use Rattle.wit_merge.proofs.texts.length_before_while.Goals as goal

pub returns-then-begins_while-clause-place : goal.returns-then-begins_while-clause-place
returns-then-begins_while-clause-place c =
    before_while-at c.args.origin.now c.loop-place.place (omega arith) c.loop-place.invariant
    (λ _. sym (ap begins_while c.split_at.ensures.back)
    ∙ (sym c.begins_while.ensures ∙ c.if-begins_while.true))

pub returns-clause-place : goal.returns-clause-place
returns-clause-place c =
    before_while-at c.args.origin.now (length c.args.origin.now) (omega arith)
    (λ k lt. c.loop-place.invariant k (omega arith)) (λ lt. absurd (omega (arith, lt)))
