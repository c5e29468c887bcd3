use Rattle.std.proofs.Common.{reverse, ap, sym, ◌∙◌}
use Rattle.wit_model.specs.Rules.Chunks.{chain_of}
use Rattle.wit_model.specs.Rules.Verdict.{violates}
use Rattle.wit_check.specs.declared.held.Seen.{Seen}
use Rattle.wit_check.specs.declared.all_held.Met.{Met}
use Rattle.wit_check.proofs.Last.{found-typed}
use Rattle.wit_check.proofs.Meeting.{teaches-none, teaches-some}
use Rattle.wit_check.proofs.Ruling.{teaching-decides}
use Rattle.wit_check.proofs.all_held.behind_all.Goals as goal

pub reported-requires-clause-held : goal.reported-requires-clause-held
reported-requires-clause-held g c =
    found-typed c.args.basis.now.lock_types (violates c.args.basis.now c.args.request)
    (chain_of (g.L.Lists.chunks c.args.lists.now) c.args.list) c.in-Some-broken.broken
    c.requires.chain.typed
    (sym (ap (λ (s : Seen). s.broken) c.look-seen.ensures) ∙ c.in-Some-broken.is)

pub returns-in-None : goal.returns-in-None
returns-in-None g c =
    teaches-some c.args.basis.now c.args.request
    (reverse (chain_of (g.L.Lists.chunks c.args.lists.now) c.args.list))
    (sym (ap (λ (m : Met). m.teaches) c.meet-met.ensures) ∙ c.if-met-2.true)
    ∙ teaching-decides c.args.basis.now (chain_of (g.L.Lists.chunks c.args.lists.now) c.args.list)
    c.args.request
    (sym (ap (λ (m : Met). m.held) c.meet-met.ensures) ∙ c.in_default.is)
    (sym (ap (λ (m : Met). m.twin) c.meet-met.ensures) ∙ c.in_default-twin.is)
    (sym (ap (λ (m : Met). m.known) c.meet-met.ensures) ∙ c.if-met.false)
    (sym (ap (λ (s : Seen). s.broken) c.look-seen.ensures) ∙ c.in-None.is)

pub returns-in-None-2 : goal.returns-in-None-2
returns-in-None-2 g c =
    teaches-none c.args.basis.now c.args.request
    (reverse (chain_of (g.L.Lists.chunks c.args.lists.now) c.args.list))
    (sym (ap (λ (m : Met). m.teaches) c.meet-met.ensures) ∙ c.if-met-2.false)
    ∙ teaching-decides c.args.basis.now (chain_of (g.L.Lists.chunks c.args.lists.now) c.args.list)
    c.args.request
    (sym (ap (λ (m : Met). m.held) c.meet-met.ensures) ∙ c.in_default.is)
    (sym (ap (λ (m : Met). m.twin) c.meet-met.ensures) ∙ c.in_default-twin.is)
    (sym (ap (λ (m : Met). m.known) c.meet-met.ensures) ∙ c.if-met.false)
    (sym (ap (λ (s : Seen). s.broken) c.look-seen.ensures) ∙ c.in-None-2.is)
