use Rattle.std.proofs.Common.{sym, ◌∙◌}
use Rattle.wit_model.specs.Rules.Chunks.{groups_of}
use Rattle.wit_held.specs.Chains.{in_mode}
use Rattle.wit_held.specs.Spots.{place_at}
use Rattle.wit_held.proofs.Recording.{turned, turn-none}
use Rattle.wit_held.proofs.FoundLock.{held-found, writes}
use Rattle.wit_held.proofs.chains.set_mode.Goals as goal

pub returns-in-Some-clause-groups : goal.returns-in-Some-clause-groups
returns-in-Some-clause-groups g c =
    let chunks = g.L.Lists.chunks c.args.lists.now in
    let l = c.args.lock.0 in
    c.replace_in.ensures.groups
    ∙ writes chunks c.args.list l c.in-Some.there c.in-Some.ensures.there
    (in_mode c.args.mode c.in-Some.there.held)
    ∙ turned chunks c.args.list l (place_at (groups_of chunks c.args.list) c.in-Some.there)
    c.in-Some.there.held c.in-Some.ensures.there.place
    (held-found chunks c.args.list l c.in-Some.there c.in-Some.ensures.there)
    c.requires.once c.args.mode

pub returns-in-None-clause-groups : goal.returns-in-None-clause-groups
returns-in-None-clause-groups g c =
    turn-none (g.L.Lists.chunks c.args.lists.now) c.args.list c.args.lock.0
    (sym c.in-None.ensures.held) c.args.mode
