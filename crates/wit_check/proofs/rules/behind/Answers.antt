use Rattle.std.proofs.Common.{◌≡◌, eqb, find, reverse, Some, ap, sym, ◌∙◌}
use Rattle.std.proofs.lemmas.Bool.{eq-eqb, ne_eqb}
use Rattle.wit_model.specs.declared.locks.TypeNo.{TypeNo}
use Rattle.wit_model.specs.Rules.Orders.{is_direct}
use Rattle.wit_model.specs.Rules.Chunks.{chain_of}
use Rattle.wit_model.specs.Rules.Verdict.{violates}
use Rattle.wit_check.specs.declared.held.Seen.{Seen}
use Rattle.wit_check.specs.Looks.{older_than}
use Rattle.wit_check.proofs.Last.{last-typed, found-typed}
use Rattle.wit_check.proofs.Looking.{once-found}
use Rattle.wit_check.proofs.Ruling.{again-decides, double-decides, direct-decides}
use Rattle.wit_check.proofs.Ruling.{violation-decides, learning-decides}
use Rattle.wit_check.proofs.rules.behind.Goals as goal
use Rattle.wit_check.proofs.rules.behind.Goals.{then-is_double-via-then-is_double}
use Rattle.wit_check.proofs.rules.behind.Goals.{then-is_double-via-else-is_double+then-is_direct}

pub type_held-parent-requires : goal.type_held-parent-requires
type_held-parent-requires g c =
    last-typed c.args.basis.now.lock_types
    (chain_of (g.L.Lists.chunks c.args.lists.now) c.args.list) c.args.last
    c.requires.chain.typed c.requires.last

pub learnt-requires-clause-last : goal.learnt-requires-clause-last
learnt-requires-clause-last g c =
    last-typed c.args.basis.now.lock_types
    (chain_of (g.L.Lists.chunks c.args.lists.now) c.args.list) c.args.last
    c.requires.chain.typed c.requires.last

pub reported-requires-clause-held : goal.reported-requires-clause-held
reported-requires-clause-held g c =
    found-typed c.args.basis.now.lock_types (violates c.args.basis.now c.args.request)
    (chain_of (g.L.Lists.chunks c.args.lists.now) c.args.list) c.in-None-Some.broken
    c.requires.chain.typed
    (sym (ap (λ (s : Seen). s.broken) c.look-seen.ensures) ∙ c.in-None-Some.is-1)

pub returns-in-Some : goal.returns-in-Some
returns-in-Some g c = λ new.
    c.again.ensures new
    ∙ again-decides c.args.basis.now (chain_of (g.L.Lists.chunks c.args.lists.now) c.args.list)
    c.args.last c.args.request c.in-Some.held
    (sym (once-found c.args.basis.now c.args.request c.args.request.lock.0
    (chain_of (g.L.Lists.chunks c.args.lists.now) c.args.list) c.requires.chain.once)
    ∙ sym c.newest_held.ensures ∙ c.in-Some.is)

pub returns-in-None : goal.returns-in-None
returns-in-None g c = λ new.
    c.doubled.ensures new
    ∙ double-decides c.args.basis.now (chain_of (g.L.Lists.chunks c.args.lists.now) c.args.list)
    c.args.last c.args.request c.requires.last
    (sym (once-found c.args.basis.now c.args.request c.args.request.lock.0
    (chain_of (g.L.Lists.chunks c.args.lists.now) c.args.list) c.requires.chain.once)
    ∙ sym c.newest_held.ensures ∙ c.in-None.is)
    (ap (λ (t : TypeNo). eqb t.0 c.args.request.type_no.0) (sym c.type_held-parent.ensures.value)
    ∙ eq-eqb c.type_held-parent.result.0 c.args.request.type_no.0 c.if-is_double-2.true)

pub returns-in-None-2 : goal.returns-in-None-2
returns-in-None-2 g c = λ new.
    direct-decides c.args.basis.now (chain_of (g.L.Lists.chunks c.args.lists.now) c.args.list)
    c.args.last c.args.request c.requires.last
    (sym (once-found c.args.basis.now c.args.request c.args.request.lock.0
    (chain_of (g.L.Lists.chunks c.args.lists.now) c.args.list) c.requires.chain.once)
    ∙ sym c.newest_held.ensures ∙ c.in-None.is)
    (ap (λ (t : TypeNo). eqb t.0 c.args.request.type_no.0) (sym c.type_held-parent.ensures.value)
    ∙ ne_eqb c.type_held-parent.result.0 c.args.request.type_no.0 c.if-is_double-2.false)
    (ap (λ (t : TypeNo). is_direct c.args.basis.now.orders t.0 c.args.request.type_no.0)
    (sym c.type_held-parent.ensures.value)
    ∙ elim c.then-is_double.branch [
      | then-is_double-via-then-is_double w ↦ absurd (c.if-is_double-2.false w.if-is_double.true)
      | then-is_double-via-else-is_double+then-is_direct w ↦ sym w.is_direct.ensures
          ∙ w.if-is_direct.true
    ])

pub returns-in-Some-default : goal.returns-in-Some-default
returns-in-Some-default g c = λ new.
    c.again-in-Some-default.ensures new
    ∙ again-decides c.args.basis.now (chain_of (g.L.Lists.chunks c.args.lists.now) c.args.list)
    c.args.last c.args.request c.in-Some-default.held
    (sym (ap (λ (s : Seen). s.held) c.look-seen.ensures) ∙ c.in-Some-default.is-0)

pub returns-in-None-Some : goal.returns-in-None-Some
returns-in-None-Some g c = λ new.
    let sees : find (violates c.args.basis.now c.args.request)
    (reverse (chain_of (g.L.Lists.chunks c.args.lists.now) c.args.list))
    ≡ Some c.in-None-Some.broken =
    sym (ap (λ (s : Seen). s.broken) c.look-seen.ensures) ∙ c.in-None-Some.is-1 in
    c.reported.ensures new (chain_of (g.L.Lists.chunks c.args.lists.now) c.args.list)
    (ap (λ (s : Seen). s.older) c.look-seen.ensures
    ∙ ap (λ o. older_than c.args.basis.now c.args.request o
    (chain_of (g.L.Lists.chunks c.args.lists.now) c.args.list)) sees)
    ∙ violation-decides c.args.basis.now (chain_of (g.L.Lists.chunks c.args.lists.now) c.args.list)
    c.args.last c.args.request c.requires.last
    (sym (ap (λ (s : Seen). s.held) c.look-seen.ensures) ∙ c.in-None-Some.is-0)
    (ap (λ (t : TypeNo). eqb t.0 c.args.request.type_no.0) (sym c.type_held-parent.ensures.value)
    ∙ ne_eqb c.type_held-parent.result.0 c.args.request.type_no.0 c.if-is_double.false)
    (ap (λ (t : TypeNo). is_direct c.args.basis.now.orders t.0 c.args.request.type_no.0)
    (sym c.type_held-parent.ensures.value) ∙ sym c.is_direct.ensures ∙ c.if-is_direct.false)
    c.in-None-Some.broken sees

pub returns-in-None-None : goal.returns-in-None-None
returns-in-None-None g c = λ new.
    c.learnt.ensures new
    ∙ learning-decides c.args.basis.now (chain_of (g.L.Lists.chunks c.args.lists.now) c.args.list)
    c.args.last c.args.request c.requires.last
    (sym (ap (λ (s : Seen). s.held) c.look-seen.ensures) ∙ c.in-None-None.is-0)
    (ap (λ (t : TypeNo). eqb t.0 c.args.request.type_no.0) (sym c.type_held-parent.ensures.value)
    ∙ ne_eqb c.type_held-parent.result.0 c.args.request.type_no.0 c.if-is_double.false)
    (ap (λ (t : TypeNo). is_direct c.args.basis.now.orders t.0 c.args.request.type_no.0)
    (sym c.type_held-parent.ensures.value) ∙ sym c.is_direct.ensures ∙ c.if-is_direct.false)
    (sym (ap (λ (s : Seen). s.broken) c.look-seen.ensures) ∙ c.in-None-None.is-1)
