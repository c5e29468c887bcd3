use Rattle.std.proofs.Common.{take, arith}
use Rattle.std.proofs.lemmas.List.{length-take-le}
use Rattle.wit_model.specs.Rules.Warnings.{is_allowed}
use Rattle.wit_held.proofs.Passing.{both}
use Rattle.wit_held.proofs.warnings.allowed_in.Goals as goal

pub overflow_add-allowed : goal.overflow_add-allowed
overflow_add-allowed g c =
    omega (
      arith,
      c.loop-held.invariant,
      both (is_allowed (g.T.LockTypes.basis c.args.types.now) c.args.named c.args.flags)
          (take c.loop-held.held-index c.args.chunk.now),
      length-take-le c.loop-held.held-index c.args.chunk.now (omega arith),
      c.loop-held-test.true,
    )
