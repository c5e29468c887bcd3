use Rattle.std.proofs.Common.{ap, ◌∙◌}
use Rattle.wit_orders.specs.Sequence.{written}
use Rattle.wit_orders.proofs.Keys.{insert-written}
use Rattle.wit_orders.proofs.sequence.list.Goals as goal

pub returns : goal.returns
returns c =
    ap written c.in_ok-insert.ensures.keys
    ∙ insert-written c.args.types.now.keys c.in_ok-from_slice.field-0 c.args.text.now
    c.in_ok-from_slice.ensures.items c.requires
