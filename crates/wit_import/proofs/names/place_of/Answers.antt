use Rattle.std.proofs.Common.{◌∙◌}
use Rattle.wit_import.proofs.Keys.{position-written}
use Rattle.wit_import.proofs.names.place_of.Goals as goal

pub returns : goal.returns
returns c =
    c.get_index_of.ensures.index ∙ position-written c.args.name.now c.args.names.now.keys
