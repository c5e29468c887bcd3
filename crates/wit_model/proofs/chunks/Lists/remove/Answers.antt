use Rattle.std.proofs.Common.{List, ap, ◌∙◌}
use Rattle.std.specs.List.{remove}
use Rattle.wit_model.specs.declared.locks.Instance.{Instance}
use Rattle.wit_model.specs.Rules.Groups.{tidied}
use Rattle.wit_model.specs.Rules.Chunks.{set_groups}
use Rattle.wit_model.proofs.Walking.{edited-there}
use Rattle.wit_model.proofs.chunks.Lists.remove.Goals as goal

pub returns-clause-groups : goal.returns-clause-groups
returns-clause-groups g c =
    let chunks = g.Self.Lists.chunks c.args.self.now in
    c.remove_in.ensures.groups
    ∙ ap (λ (gs : List (List Instance)). set_groups chunks c.args.list (tidied gs))
    (edited-there chunks c.args.list c.args.place c.locate-index.result.0 c.locate-index.result.1
    c.locate-index.ensures.spot c.locate-index.ensures.index
    c.locate-index.ensures.before (λ n h. remove h n))
