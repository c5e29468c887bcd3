use Rattle.std.proofs.Common.{◌∙◌}
use Rattle.wit_orders.proofs.Keys.{position-written}
use Rattle.wit_orders.proofs.sequence.place_of.Goals as goal

pub returns : goal.returns
returns c =
    c.get_index_of.ensures.index ∙ position-written c.args.text.now c.args.types.now.keys
