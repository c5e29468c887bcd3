use Rattle.std.proofs.Common.{ap, sym, ◌∙◌}
use Rattle.wit_pool.specs.Chunks.{chunk_at, content}
use Rattle.wit_pool.proofs.Keeping.{chunk-within, is-at, group-is}
use Rattle.wit_pool.proofs.pool.PoolLists.group.Goals as goal

pub link_to-at-requires-clause-place : goal.link_to-at-requires-clause-place
link_to-at-requires-clause-place g c =
    chunk-within c.self.inside c.args.self.now c.self.view_is c.self.invariant c.args.list
    c.requires.list c.args.spot c.requires.spot

pub read-requires : goal.read-requires
read-requires g c =
    is-at c.self.inside c.args.self.now c.self.view_is c.self.invariant c.args.list c.requires.list
    c.args.spot c.requires.spot c.link_to-at.result c.link_to-at.ensures.leads
    c.link_to-at.ensures.place

pub returns : goal.returns
returns g c =
    c.locks.ensures ∙ sym (ap content c.read.ensures)
    ∙ ap (λ p. content (chunk_at c.self.inside.cells.slots p)) c.link_to-at.ensures.place
    ∙ sym (group-is c.self.inside c.args.self.now c.self.view_is c.self.invariant c.args.list
    c.requires.list c.args.spot c.requires.spot)
