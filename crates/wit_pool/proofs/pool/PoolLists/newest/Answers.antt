use Rattle.std.proofs.Common.{◌+◌, ◌-◌, None, ap, sym, subst, ◌∙◌}
use Rattle.wit_model.specs.Rules.Chunks.{IsSpot}
use Rattle.wit_pool.specs.declared.chain.Chain.{Chain}
use Rattle.wit_pool.proofs.Keeping.{fits, chunk-fits, newest-all, newest-spot, newest-none}
use Rattle.wit_pool.proofs.pool.PoolLists.newest.Goals as goal

pub returns-in-Some-clause-all : goal.returns-in-Some-clause-all
returns-in-Some-clause-all g c =
    ap (λ (ch : Chain). ch.count - 1 + 1) c.index-chain.ensures
    ∙ newest-all c.self.inside c.args.self.now c.self.view_is c.self.invariant c.args.list
    c.requires.list c.index-chain.result.now c.in-Some.at
    (sym (ap (λ (ch : Chain). ch.head) c.index-chain.ensures) ∙ c.in-Some.is)

pub returns-in-Some-clause-spot : goal.returns-in-Some-clause-spot
returns-in-Some-clause-spot g c =
    subst (λ (ch : Chain). IsSpot c.args.self.now c.args.list
    (record { group = ch.count - 1; chunk = c.in-Some.at.place; newer = None }))
    (sym c.index-chain.ensures)
    (newest-spot c.self.inside c.args.self.now c.self.view_is c.self.invariant c.args.list
    c.requires.list c.index-chain.result.now c.in-Some.at
    (sym (ap (λ (ch : Chain). ch.head) c.index-chain.ensures) ∙ c.in-Some.is))

pub returns-in-Some-clause-few : goal.returns-in-Some-clause-few
returns-in-Some-clause-few g c =
    fits c.self.inside c.args.self.now c.self.view_is c.self.invariant c.args.list c.requires.list

pub returns-in-None-clause-all : goal.returns-in-None-clause-all
returns-in-None-clause-all g c =
    newest-none c.self.inside c.args.self.now c.self.view_is c.self.invariant c.args.list
    c.requires.list c.index-chain.result.now
    (sym (ap (λ (ch : Chain). ch.head) c.index-chain.ensures) ∙ c.in-None.is)

pub returns-in-None-clause-few : goal.returns-in-None-clause-few
returns-in-None-clause-few g c =
    fits c.self.inside c.args.self.now c.self.view_is c.self.invariant c.args.list c.requires.list

pub overflow_cast-result : goal.overflow_cast-result
overflow_cast-result g c = record {
  fits =
      chunk-fits c.self.inside c.args.self.now c.self.view_is c.self.invariant c.args.list
      c.requires.list _
      (newest-spot c.self.inside c.args.self.now c.self.view_is c.self.invariant c.args.list
      c.requires.list c.index-chain.result.now c.in-Some.at
      (sym (ap (λ (ch : Chain). ch.head) c.index-chain.ensures) ∙ c.in-Some.is));
}
