use Rattle.std.proofs.Common.{ap, ◌∙◌}
use Rattle.wit_model.specs.Rules.Chunks.{chain_of}
use Rattle.wit_held.specs.Chains.{after_forget}
use Rattle.wit_model.specs.Rules.Step.{released}
use Rattle.wit_held.proofs.Newest.{found-lock}
use Rattle.wit_held.proofs.FoundLock.{named, once-named}
use Rattle.wit_held.proofs.releases.release.Goals as goal

pub returns-in_default-clause-result : goal.returns-in_default-clause-result
returns-in_default-clause-result g c =
    c.release_of_none.ensures c.args.mode
    ∙ ap (released c.args.watch c.args.mode) c.in_default.ensures.held

pub take_back-requires-clause-there : goal.take_back-requires-clause-there
take_back-requires-clause-there g c =
    named (g.L.Lists.chunks c.args.lists.now) c.args.list c.args.lock.0 c.in-Some.there
    c.in-Some.ensures.there

pub take_back-requires-clause-once : goal.take_back-requires-clause-once
take_back-requires-clause-once g c =
    once-named (g.L.Lists.chunks c.args.lists.now) c.args.list c.args.lock.0 c.in-Some.there
    c.in-Some.ensures.there c.requires.once

pub returns-clause-groups : goal.returns-clause-groups
returns-clause-groups g c is =
    c.take_back.ensures.groups
    ∙ ap (after_forget (g.L.Lists.chunks c.args.lists.now) c.args.list)
    (found-lock c.args.lock.0 (chain_of (g.L.Lists.chunks c.args.lists.now) c.args.list)
    c.in-Some.there.held c.in-Some.ensures.held)
