use Rattle.std.proofs.Common.{◌∙◌}
use Rattle.wit_gathered.proofs.Keys.{any-written, position-written}
use Rattle.wit_gathered.proofs.names.place_of.Goals as goal

pub returns-clause-place : goal.returns-clause-place
returns-clause-place c =
    c.get_index_of.ensures.index ∙ position-written c.args.name.now c.args.names.now.keys

pub returns-clause-found : goal.returns-clause-found
returns-clause-found c =
    c.get_index_of.ensures.found ∙ any-written c.args.name.now c.args.names.now.keys
