use Rattle.std.proofs.Common.{◌∙◌}
use Rattle.wit_gathered.proofs.Keys.{length-written}
use Rattle.wit_gathered.proofs.names.count.Goals as goal

pub returns : goal.returns
returns c = c.len.ensures.len ∙ length-written c.args.names.now.keys
