use Rattle.wit_fields.proofs.Places.{parts_at}
use Rattle.wit_fields.proofs.names.split_at_last.Goals as goal

pub returns-then-word-i : goal.returns-then-word-i
returns-then-word-i c =
    parts_at c.args.byte c.args.word.now c.loop-i.i c.loop-i-test.true c.loop-i.auto.i
    c.if-word-i.true c.loop-i.invariant
