use Rattle.std.proofs.Common.{arith}
use Rattle.wit_migrate.proofs.Weights.{shares-le}
use Rattle.wit_migrate.proofs.steps.do_step.Goals as goal

pub gain-requires : goal.gain-requires
gain-requires c =
    let within = shares-le c.args.raw.now c.args.step.seat.0 c.args.step.lock.0 in
    let few = c.requires.few in
    omega (arith, within, few)

pub gain-requires-in-TryTake : goal.gain-requires-in-TryTake
gain-requires-in-TryTake c =
    let within = shares-le c.args.raw.now c.args.step.seat.0 c.args.step.lock.0 in
    let few = c.requires.few in
    omega (arith, within, few)
