use Rattle.std.proofs.Common.{◌∙◌}
use Rattle.wit_import.proofs.Keys.{any-written}
use Rattle.wit_import.proofs.names.has_name.Goals as goal

pub returns : goal.returns
returns c = c.contains.ensures ∙ any-written c.args.name.now c.args.names.now.keys
