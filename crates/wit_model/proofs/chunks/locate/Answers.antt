use Rattle.std.proofs.Common.{length, ap, arith}
use Rattle.wit_model.proofs.Walking.{all-lengths}
use Rattle.wit_model.proofs.chunks.locate.Goals as goal

pub overflow_sub-start : goal.overflow_sub-start
overflow_sub-start g c =
    omega (
      arith,
      c.loop-spot.invariant.1,
      ap length c.group.ensures,
      all-lengths (g.L.Lists.chunks c.args.lists.now) c.args.list c.loop-spot.spot c.in-Some.at
          c.in-Some.is c.loop-spot.invariant.0,
    )

pub returns-then-start-place-clause-before : goal.returns-then-start-place-clause-before
returns-then-start-place-clause-before g c =
    omega (
      arith,
      c.loop-spot.invariant.1,
      ap length c.group.ensures,
      c.if-start-place.true,
      all-lengths (g.L.Lists.chunks c.args.lists.now) c.args.list c.loop-spot.spot c.in-Some.at
          c.in-Some.is c.loop-spot.invariant.0,
    )
