use Rattle.std.proofs.Common.{[], ◌∷◌, IfNone, slice_index_or, subst, arith}
use Rattle.wit_alarms.specs.declared.grade.Reason.TheVariants.{OneThread, Gate, Readers, Limit, Apart}
use Rattle.wit_alarms.specs.declared.grade.Reason.TheVariants.{Waits}
use Rattle.wit_alarms.specs.Facts.{NoneCloses}
use Rattle.wit_alarms.specs.Grades.{all_but}
use Rattle.wit_alarms.proofs.Fewer.{enough_for, below_more}
use Rattle.wit_alarms.proofs.grade.only_reason.Goals as goal

pub find-requires : goal.find-requires
find-requires c =
    enough_for c.all_but.result c.args.lives.now c.args.facts.now c.args.live.now c.requires.enough

pub loop-reason-preserved : goal.loop-reason-preserved
loop-reason-preserved c =
    let lives = c.args.lives.now in
    let facts = c.args.facts.now in
    let reasons = Limit ∷ Gate ∷ Readers ∷ Waits ∷ Apart ∷ OneThread ∷ [] in
    below_more (λ k. NoneCloses (all_but (slice_index_or reasons k OneThread)) lives facts)
    c.loop-reason.reason-index c.loop-reason.invariant
    (subst (λ why. NoneCloses why lives facts) c.all_but.ensures
    (subst (λ found. IfNone found (NoneCloses c.all_but.result lives facts)) c.in-None.is
    c.in_ok-circle.ensures.none))

pub returns : goal.returns
returns c = (
  c.requires.closes,
  λ reason.
      let past = c.loop-reason-test.false in
      elim reason as (λ r. NoneCloses (all_but r) c.args.lives.now c.args.facts.now) [
        | Limit ↦ c.loop-reason.invariant 0 (omega (arith, past))
        | Gate ↦ c.loop-reason.invariant 1 (omega (arith, past))
        | Readers ↦ c.loop-reason.invariant 2 (omega (arith, past))
        | Waits ↦ c.loop-reason.invariant 3 (omega (arith, past))
        | Apart ↦ c.loop-reason.invariant 4 (omega (arith, past))
        | OneThread ↦ c.loop-reason.invariant 5 (omega (arith, past))
      ],
)
