use Rattle.std.proofs.Common.{ap, sym, ◌∙◌, arith}
use Rattle.wit_pool.specs.Chunks.{chunk_at, next_of}
use Rattle.wit_pool.proofs.Keeping.{chunk-within, chunk-fits, is-at, older-none, older-some}
use Rattle.wit_pool.proofs.Keeping.{older-spot}
use Rattle.wit_pool.proofs.pool.PoolLists.older.Goals as goal

pub link_to-at-requires-clause-place : goal.link_to-at-requires-clause-place
link_to-at-requires-clause-place g c =
    chunk-within c.self.inside c.args.self.now c.self.view_is c.self.invariant c.args.list
    c.requires.list c.args.spot c.requires.spot

pub read-requires : goal.read-requires
read-requires g c =
    is-at c.self.inside c.args.self.now c.self.view_is c.self.invariant c.args.list c.requires.list
    c.args.spot c.requires.spot c.link_to-at.result c.link_to-at.ensures.leads
    c.link_to-at.ensures.place

pub returns-in-Some-clause-before : goal.returns-in-Some-clause-before
returns-in-Some-clause-before g c =
    older-some c.self.inside c.args.self.now c.self.view_is c.self.invariant c.args.list
    c.requires.list c.args.spot c.requires.spot c.in-Some.next
    (sym (ap (λ p. next_of (chunk_at c.self.inside.cells.slots p)) c.link_to-at.ensures.place)
    ∙ ap next_of c.read.ensures ∙ c.in-Some.is)

pub returns-in-Some-clause-spot : goal.returns-in-Some-clause-spot
returns-in-Some-clause-spot g c =
    older-spot c.self.inside c.args.self.now c.self.view_is c.self.invariant c.args.list
    c.requires.list c.args.spot c.requires.spot c.in-Some.next
    (sym (ap (λ p. next_of (chunk_at c.self.inside.cells.slots p)) c.link_to-at.ensures.place)
    ∙ ap next_of c.read.ensures ∙ c.in-Some.is)

pub returns-in-None-clause-before : goal.returns-in-None-clause-before
returns-in-None-clause-before g c =
    older-none c.self.inside c.args.self.now c.self.view_is c.self.invariant c.args.list
    c.requires.list c.args.spot c.requires.spot
    (sym (ap (λ p. next_of (chunk_at c.self.inside.cells.slots p)) c.link_to-at.ensures.place)
    ∙ ap next_of c.read.ensures ∙ c.in-None.is)

pub overflow_sub-result : goal.overflow_sub-result
overflow_sub-result g c =
    omega (
      arith,
      older-some c.self.inside c.args.self.now c.self.view_is c.self.invariant c.args.list
          c.requires.list c.args.spot c.requires.spot c.in-Some.next
          (sym (ap (λ p. next_of (chunk_at c.self.inside.cells.slots p)) c.link_to-at.ensures.place)
          ∙ ap next_of c.read.ensures ∙ c.in-Some.is),
    )

pub overflow_cast-result : goal.overflow_cast-result
overflow_cast-result g c = record {
  fits =
      chunk-fits c.self.inside c.args.self.now c.self.view_is c.self.invariant c.args.list
      c.requires.list _
      (older-spot c.self.inside c.args.self.now c.self.view_is c.self.invariant c.args.list
      c.requires.list c.args.spot c.requires.spot c.in-Some.next
      (sym (ap (λ p. next_of (chunk_at c.self.inside.cells.slots p)) c.link_to-at.ensures.place)
      ∙ ap next_of c.read.ensures ∙ c.in-Some.is));
}
