use Rattle.std.proofs.Common.{refl}
use Rattle.wit_fields.proofs.Digits.{reads_more, no_number}
use Rattle.wit_fields.proofs.numbers.number_of.Goals as goal

pub returns-in_default-clause-value : goal.returns-in_default-clause-value
returns-in_default-clause-value c = (
  refl,
  no_number c.args.word.now c.loop-byte.byte-index c.loop-byte.number c.args.most
      c.loop-byte.invariant.0 c.loop-byte-test.true (c.in_default.ensures.none refl),
)

pub loop-byte-preserved : goal.loop-byte-preserved
loop-byte-preserved c = (
  reads_more c.args.word.now c.loop-byte.byte-index c.loop-byte.number c.in-Some.more
      c.loop-byte.invariant.0 c.loop-byte-test.true c.in-Some.ensures.some.0
      c.in-Some.ensures.some.1,
  c.in-Some.ensures.some.2,
)
