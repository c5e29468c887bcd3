use Rattle.std.proofs.Common.{ap, ◌∙◌}
use Rattle.wit_gathered.specs.Names.{written}
use Rattle.wit_gathered.proofs.Keys.{insert-written}
use Rattle.wit_gathered.proofs.names.add_name.Goals as goal

pub returns : goal.returns
returns c =
    ap written c.in_ok-insert.ensures.keys
    ∙ insert-written c.args.names.now.keys c.in_ok-from_slice.field-0 c.args.name.now
    c.in_ok-from_slice.ensures.items
