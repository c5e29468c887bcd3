use Rattle.std.proofs.Common.{◌∙◌}
use Rattle.wit_model.specs.Rules.Chunks.{groups_of}
use Rattle.wit_held.specs.Chains.{fewer}
use Rattle.wit_held.specs.Spots.{place_at}
use Rattle.wit_held.proofs.Recording.{forget-fewer, forget-last}
use Rattle.wit_held.proofs.FoundLock.{held-found, writes, takes}
use Rattle.wit_held.proofs.releases.take_back.Goals as goal

pub returns-then-held-gt0-clause-groups : goal.returns-then-held-gt0-clause-groups
returns-then-held-gt0-clause-groups g c =
    let chunks = g.L.Lists.chunks c.args.lists.now in
    let l = c.args.there.held.lock.0 in
    c.replace_in.ensures.groups
    ∙ writes chunks c.args.list l c.args.there c.requires.there (fewer c.args.there.held)
    ∙ forget-fewer chunks c.args.list l (place_at (groups_of chunks c.args.list) c.args.there)
    c.args.there.held c.requires.there.place
    (held-found chunks c.args.list l c.args.there c.requires.there) c.requires.once
    c.if-held-gt0.true

pub returns-else-held-gt0-clause-groups : goal.returns-else-held-gt0-clause-groups
returns-else-held-gt0-clause-groups g c =
    let chunks = g.L.Lists.chunks c.args.lists.now in
    let l = c.args.there.held.lock.0 in
    c.remove_in.ensures.groups
    ∙ takes chunks c.args.list l c.args.there c.requires.there
    ∙ forget-last chunks c.args.list l (place_at (groups_of chunks c.args.list) c.args.there)
    c.args.there.held c.requires.there.place
    (held-found chunks c.args.list l c.args.there c.requires.there) c.requires.once
    c.if-held-gt0.false
