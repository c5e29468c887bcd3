use Rattle.wit_table.proofs.Places.{live_in-at}
use Rattle.wit_table.proofs.types.live_at.Goals as goal

pub returns : goal.returns
returns c = live_in-at c.args.types.now.entries c.args.place c.index.result.now c.index.ensures
