use Rattle.wit_table.proofs.Places.{class-at}
use Rattle.wit_table.proofs.types.class_at.Goals as goal

pub returns : goal.returns
returns c = class-at c.args.types.now.entries c.args.place c.index.result.now c.index.ensures
