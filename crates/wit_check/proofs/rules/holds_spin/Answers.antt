use Rattle.std.proofs.Common.{None, is_some, ap, ◌∙◌}
use Rattle.std.specs.List.{last_or}
use Rattle.wit_model.specs.Rules.Chunks.{chain_of}
use Rattle.wit_check.proofs.Last.{at-the-end}
use Rattle.wit_check.proofs.rules.holds_spin.Goals as goal

pub returns : goal.returns
returns g c =
    c.is_some.ensures
    ∙ ap is_some
    (c.last.ensures
    ∙ at-the-end (chain_of (g.L.Lists.chunks c.args.lists.now) c.list_of.result)
    ∙ ap (λ n. last_or None (chain_of (g.L.Lists.chunks c.args.lists.now) n)) c.list_of.ensures)
