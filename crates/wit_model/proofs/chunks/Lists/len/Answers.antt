use Rattle.std.proofs.Common.{length, ap, arith}
use Rattle.wit_model.proofs.Walking.{all-lengths}
use Rattle.wit_model.proofs.chunks.Lists.len.Goals as goal

pub overflow_add-held : goal.overflow_add-held
overflow_add-held g c =
    omega (
      arith,
      c.loop-spot.invariant.1,
      ap length c.group.ensures,
      c.newest-spot.ensures.few,
      all-lengths (g.Self.Lists.chunks c.args.self.now) c.args.list c.loop-spot.spot c.in-Some.at
          c.in-Some.is c.loop-spot.invariant.0,
    )
