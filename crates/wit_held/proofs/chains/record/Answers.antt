use Rattle.std.proofs.Common.{◌∙◌}
use Rattle.wit_model.specs.Rules.Chunks.{groups_of}
use Rattle.wit_held.specs.Chains.{recursed}
use Rattle.wit_held.specs.Spots.{place_at}
use Rattle.wit_held.proofs.Recording.{record-again}
use Rattle.wit_held.proofs.FoundLock.{held-found, writes}
use Rattle.wit_held.proofs.chains.record.Goals as goal

pub returns-in-Some-clause-groups : goal.returns-in-Some-clause-groups
returns-in-Some-clause-groups g c =
    let chunks = g.L.Lists.chunks c.args.lists.now in
    let l = c.args.taken.lock.0 in
    c.replace_in.ensures.groups
    ∙ writes chunks c.args.list l c.in-Some.there c.in-Some.ensures.there
    (recursed c.args.taken.site c.in-Some.there.held)
    ∙ record-again chunks c.args.list c.args.taken
    (place_at (groups_of chunks c.args.list) c.in-Some.there) c.in-Some.there.held
    c.in-Some.ensures.there.place
    (held-found chunks c.args.list l c.in-Some.there c.in-Some.ensures.there) c.requires.once
