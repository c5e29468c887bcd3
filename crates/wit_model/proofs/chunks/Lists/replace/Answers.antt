use Rattle.std.proofs.Common.{set, ap, ◌∙◌}
use Rattle.wit_model.specs.Rules.Chunks.{set_groups}
use Rattle.wit_model.proofs.Walking.{edited-there}
use Rattle.wit_model.proofs.chunks.Lists.replace.Goals as goal

pub returns-clause-groups : goal.returns-clause-groups
returns-clause-groups g c =
    let chunks = g.Self.Lists.chunks c.args.self.now in
    c.replace_in.ensures.groups
    ∙ ap (set_groups chunks c.args.list)
    (edited-there chunks c.args.list c.args.place c.locate-index.result.0 c.locate-index.result.1
    c.locate-index.ensures.spot c.locate-index.ensures.index
    c.locate-index.ensures.before (λ n h. set h n c.args.instance))
