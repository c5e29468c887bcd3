use Rattle.std.proofs.Common.{◌-◌, ◌<◌, [], length, set, get_or, refl, sym, subst}
use Rattle.std.proofs.lemmas.List.{set-get_or}
use Rattle.wit_model.specs.Rules.Groups.{replaced_in}
use Rattle.wit_model.specs.Rules.Chunks.{groups_of, set_groups}
use Rattle.wit_pool.specs.Chunks.{chunk_at, content, IsRegrouped}
use Rattle.wit_pool.specs.Kept.{rows_of, lists_of, spare_of}
use Rattle.wit_pool.proofs.Links.{bare-regrouped}
use Rattle.wit_pool.proofs.Standing.{regrouped}
use Rattle.wit_pool.proofs.Keeping.{stands, chunk-within, is-at, in-content, replaces}
use Rattle.wit_pool.proofs.Leaving.{IsLeft}
use Rattle.wit_pool.proofs.Leaving.{left-now}
use Rattle.wit_pool.proofs.pool.PoolLists.replace_in.Given.{Over}
use Rattle.wit_pool.proofs.pool.PoolLists.replace_in.Goals as goal

pub link_to-at-requires-clause-place : goal.link_to-at-requires-clause-place
link_to-at-requires-clause-place g c =
    chunk-within c.self.inside c.args.self.now c.self.view_is c.self.invariant c.args.list
    c.requires.list c.args.spot c.requires.spot

pub put_at-requires-clause-there : goal.put_at-requires-clause-there
put_at-requires-clause-there g c =
    is-at c.self.inside c.args.self.now c.self.view_is c.self.invariant c.args.list c.requires.list
    c.args.spot c.requires.spot c.link_to-at.result c.link_to-at.ensures.leads
    c.link_to-at.ensures.place

pub put_at-requires-clause-index : goal.put_at-requires-clause-index
put_at-requires-clause-index g c =
    subst (λ p. c.args.index < length (content (chunk_at c.self.inside.cells.slots p)))
    (sym c.link_to-at.ensures.place)
    (in-content c.self.inside c.args.self.now c.self.view_is c.self.invariant c.args.list
    c.requires.list c.args.spot c.requires.spot c.args.index c.requires.index)

-- what the written lock leaves
left : (g : Over) (c : goal.After-put_at g)
    → IsLeft c.args.self.now c.args.list
    (set_groups c.args.self.now c.args.list
    (replaced_in c.args.spot.group c.args.index c.args.instance
    (groups_of c.args.self.now c.args.list)))
    (record {
      chains = c.self.inside.chains;
      free = c.self.inside.free;
      unmade = c.self.inside.unmade;
      first = c.self.inside.first;
      count = c.self.inside.count;
      cells = c.put_at.new.cells;
      deed = c.self.inside.deed;
      alloc =
          c.self.inside.alloc;
    })
left g c =
    let v = c.self.inside in
    let held =
    set (content (chunk_at v.cells.slots c.args.spot.chunk)) c.args.index c.args.instance in
    let put : IsRegrouped v.cells.slots c.put_at.new.cells.slots c.args.spot.chunk held =
    subst (λ p. IsRegrouped v.cells.slots c.put_at.new.cells.slots p
    (set (content (chunk_at v.cells.slots p)) c.args.index c.args.instance))
    c.link_to-at.ensures.place c.put_at.ensures.slots in
    left-now v c.args.self.now c.self.view_is c.self.invariant c.args.list c.requires.list
    (record {
      chains = c.self.inside.chains;
      free = c.self.inside.free;
      unmade = c.self.inside.unmade;
      first = c.self.inside.first;
      count = c.self.inside.count;
      cells = c.put_at.new.cells;
      deed = c.self.inside.deed;
      alloc =
          c.self.inside.alloc;
    })
    (record {
      at = c.put_at.ensures.at;
      first = refl;
      count = refl;
      unmade = refl;
      deed = c.self.invariant.deed;
    })
    c.args.spot.chunk held (get_or (lists_of v) (c.args.list - 1) []) (spare_of v)
    (set_groups c.args.self.now c.args.list
    (replaced_in c.args.spot.group c.args.index c.args.instance
    (groups_of c.args.self.now c.args.list)))
    (lists_of v) (sym (set-get_or (lists_of v) (c.args.list - 1) []))
    (regrouped v.cells.at v.cells.slots v.chains.items v.free (rows_of v) (lists_of v) (spare_of v)
    (stands v c.args.self.now c.self.view_is c.self.invariant) c.put_at.new.cells.slots
    c.args.spot.chunk held put)
    (bare-regrouped v.cells.at v.cells.slots v.unmade c.self.invariant.bare c.put_at.new.cells.slots
    c.args.spot.chunk held put)
    (replaces v c.args.self.now c.self.view_is c.self.invariant c.args.list c.requires.list
    c.args.spot c.requires.spot c.args.index c.requires.index c.args.instance)

pub invariant_of-self : goal.invariant_of-self
invariant_of-self g c = (left g c).kept

pub returns-clause-groups : goal.returns-clause-groups
returns-clause-groups g c = (left g c).are

pub returns-clause-size : goal.returns-clause-size
returns-clause-size g c = (left g c).size

pub returns-clause-placed : goal.returns-clause-placed
returns-clause-placed g c = (left g c).placed

pub returns-clause-others : goal.returns-clause-others
returns-clause-others g c = (left g c).others
