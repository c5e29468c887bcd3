use Rattle.std.proofs.Common.{None, ap, ◌∙◌}
use Rattle.std.specs.Map.Iter.{deref_pair}
use Rattle.wit_gathered.specs.Symbols.{last_of, symbols}
use Rattle.wit_gathered.proofs.Last.{last-taken, up-to}
use Rattle.wit_gathered.proofs.statics.Statics.symbol_at.Goals as goal

pub returns : goal.returns
returns c =
    last-taken deref_pair c.range.result c.next_back.new.self c.next_back.result
    c.next_back.ensures.steps
    ∙ ap (last_of None)
    (c.range.ensures.between tt ∙ up-to c.args.address (symbols c.args.self.now))
