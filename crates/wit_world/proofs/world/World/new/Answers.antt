use Rattle.std.proofs.Common.{sym, subst}
use Rattle.wit_world.specs.Kept.{IsKept}
use Rattle.wit_world.proofs.Keeping.{kept-opening}
use Rattle.wit_world.proofs.Stepped.{opened-now}
use Rattle.wit_world.proofs.world.World.new.Goals as goal

pub invariant_of-result : goal.invariant_of-result
invariant_of-result c =
    subst IsKept (sym (opened-now c.args.verifier c.new.result c.seats.result c.in-Ok.stages.items
    c.new.ensures c.seats.ensures.value c.in-Ok.ensures))
    (kept-opening c.args.verifier c.requires)

pub returns-in-Ok-clause-ok : goal.returns-in-Ok-clause-ok
returns-in-Ok-clause-ok c =
    opened-now c.args.verifier c.new.result c.seats.result c.in-Ok.stages.items c.new.ensures
    c.seats.ensures.value c.in-Ok.ensures
