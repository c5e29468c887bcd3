use Rattle.std.proofs.Common.{refl}
use Rattle.wit_table.proofs.Places.{types_in-set_value_at, live_in-set_value_at}
use Rattle.wit_table.proofs.types.set_live.Goals as goal

pub returns-clause-types : goal.returns-clause-types
returns-clause-types c =
    types_in-set_value_at c.args.types.now.entries c.args.place c.index_mut.result.now _
    c.index_mut.ensures.value refl

pub returns-clause-live : goal.returns-clause-live
returns-clause-live c = live_in-set_value_at c.args.types.now.entries c.args.place _
