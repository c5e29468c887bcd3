use Rattle.std.proofs.Common.{length, sym, ◌∙◌}
use Rattle.wit_alarms.specs.Lives.{made_since}
use Rattle.wit_alarms.proofs.Descents.{any-next}
use Rattle.wit_alarms.proofs.lives.was_made_since.Goals as goal

pub loop-preserved : goal.loop-preserved
loop-preserved c =
    c.loop.invariant
    ∙ any-next (made_since c.args.maker c.args.at) c.args.lives.now (length c.args.lives.now)
    c.loop.counter c.loop.younger.0 c.in-Some.life.now c.loop-test.true c.in-Some.ensures
    (sym c.is_made_since.ensures ∙ c.if-is_made_since.false)
