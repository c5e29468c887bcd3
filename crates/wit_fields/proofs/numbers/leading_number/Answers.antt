use Rattle.std.proofs.Common.{refl, sym, ap, ◌∙◌, arith, true, false}
use Rattle.wit_fields.proofs.Digits.{reads_more}
use Rattle.wit_fields.proofs.Leading.{begins, plain_more, leads_none, ends_at, leads}
use Rattle.wit_fields.proofs.numbers.leading_number.Goals.{then-loop-len-test+else-bytes-len-ne32}
use Rattle.wit_fields.proofs.numbers.leading_number.Goals.{else-loop-len-test}
use Rattle.wit_fields.proofs.numbers.leading_number.Goals as goal

pub returns-in_default-clause-value : goal.returns-in_default-clause-value
returns-in_default-clause-value c = (
  refl,
  leads_none c.args.bytes.now c.loop-len.len c.loop-len.number c.args.most
      (plain_more c.args.bytes.now c.loop-len.len c.loop-len.invariant.0 c.if-bytes-len-ne32.true)
      c.loop-len.invariant.1.0 c.loop-len-test.true (c.in_default.ensures.none refl),
)

pub loop-len-preserved : goal.loop-len-preserved
loop-len-preserved c = (
  plain_more c.args.bytes.now c.loop-len.len c.loop-len.invariant.0 c.if-bytes-len-ne32.true,
  (
    reads_more c.args.bytes.now c.loop-len.len c.loop-len.number c.in-Some.more
        c.loop-len.invariant.1.0 c.loop-len-test.true c.in-Some.ensures.some.0
        c.in-Some.ensures.some.1,
    (
      c.in-Some.ensures.some.2,
      omega (arith, c.loop-len-test.true),
    ),
  ),
)

pub returns-then-not-begins_numeral-clause-value : goal.returns-then-not-begins_numeral-clause-value
returns-then-not-begins_numeral-clause-value c = (
  refl,
  leads c.args.bytes.now c.loop-len.len c.loop-len.number c.args.most
      (ends_at c.args.bytes.now c.loop-len.len c.loop-len.invariant.0 c.loop-len.invariant.1.1.1
      (elim c.loop-len-test.branch [
        | then-loop-len-test+else-bytes-len-ne32 w ↦ (λ lt. w.if-bytes-len-ne32.false)
        | else-loop-len-test w ↦ (λ lt. absurd (omega (arith, lt, w.loop-len-test.false)))
      ]))
      c.loop-len.invariant.1.0 c.loop-len.invariant.1.1.0 false
      (ap begins (sym c.split_at.ensures.front) ∙ sym c.begins_numeral.ensures
      ∙ c.if-not-begins_numeral.true),
)

pub returns-clause-value : goal.returns-clause-value
returns-clause-value c =
    rw c.split_at.ensures.back (leads c.args.bytes.now c.loop-len.len c.loop-len.number c.args.most
    (ends_at c.args.bytes.now c.loop-len.len c.loop-len.invariant.0 c.loop-len.invariant.1.1.1
    (elim c.loop-len-test.branch [
      | then-loop-len-test+else-bytes-len-ne32 w ↦
          (λ lt. w.if-bytes-len-ne32.false)
      | else-loop-len-test w ↦
          (λ lt. absurd (omega (arith, lt, w.loop-len-test.false)))
    ]))
    c.loop-len.invariant.1.0 c.loop-len.invariant.1.1.0 true
    (ap begins (sym c.split_at.ensures.front) ∙ sym c.begins_numeral.ensures
    ∙ c.if-not-begins_numeral.false))
