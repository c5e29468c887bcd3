use Rattle.std.proofs.Common.{ap, sym, ◌∙◌}
use Rattle.std.specs.Option.{option_map}
use Rattle.std.specs.Map.Iter.{deref_pair}
use Rattle.wit_table.proofs.Places.{name-at}
use Rattle.wit_table.proofs.types.name_at.Goals as goal

pub returns : goal.returns
returns c =
    let named =
    name-at c.args.types.now.entries c.args.place (deref_pair c.unwrap.result)
    (sym c.get_index.ensures.entry ∙ ap (option_map deref_pair) c.unwrap.ensures) in
    (named.0, named.1, c.as_str.ensures.value ∙ named.2)
