use Rattle.std.proofs.Common.{◌-◌, ◌<◌, length, refl, ap, sym, subst, ◌∙◌, inl, inr, arith}
use Rattle.std.specs.Prelude.{IfSome}
use Rattle.std.specs.List.{remove}
use Rattle.std_alloc.specs.Vec.{with_item}
use Rattle.wit_model.specs.Rules.Groups.{removed_in}
use Rattle.wit_model.specs.Rules.Chunks.{Chunks, IsPlaced, KeepOthers, groups_of, set_groups}
use Rattle.wit_pool.specs.Chunks.{chunk_at, content, Leads, IsAt}
use Rattle.wit_pool.proofs.Keeping.{in-chains, chunk-within, is-at, in-content, few-free}
use Rattle.wit_pool.proofs.Leaving.{IsLeft}
use Rattle.wit_pool.proofs.Removing.{stays, newer-within, chunk-there, newer-there, freed}
use Rattle.wit_pool.proofs.pool.PoolLists.remove_in.Given.{Over}
use Rattle.wit_pool.proofs.pool.PoolLists.remove_in.Goals as goal
use Rattle.wit_pool.proofs.pool.PoolLists.remove_in.Goals.{else-take_out-eq0-via-then-take_out-eq0+else-chain-gt1}
use Rattle.wit_pool.proofs.pool.PoolLists.remove_in.Goals.{else-take_out-eq0-via-else-take_out-eq0}

pub overflow_sub-list : goal.overflow_sub-list
overflow_sub-list g c = c.requires.list.0

pub index-chain-requires : goal.index-chain-requires
index-chain-requires g c =
    omega (
      arith,
      in-chains c.self.inside c.args.self.now c.self.view_is c.self.invariant
          c.args.list c.requires.list,
      c.self.inside.chains.ok.0,
    )

pub index_mut-requires : goal.index_mut-requires
index_mut-requires g c =
    omega (
      arith,
      in-chains c.self.inside c.args.self.now c.self.view_is c.self.invariant
          c.args.list c.requires.list,
      c.self.inside.chains.ok.0,
    )

pub link_to-at-requires-clause-first : goal.link_to-at-requires-clause-first
link_to-at-requires-clause-first g c = c.self.invariant.first

pub link_to-at-requires-clause-place : goal.link_to-at-requires-clause-place
link_to-at-requires-clause-place g c =
    chunk-within c.self.inside c.args.self.now c.self.view_is c.self.invariant c.args.list
    c.requires.list c.args.spot c.requires.spot

pub take_out-requires-clause-there : goal.take_out-requires-clause-there
take_out-requires-clause-there g c =
    is-at c.self.inside c.args.self.now c.self.view_is c.self.invariant c.args.list c.requires.list
    c.args.spot c.requires.spot c.link_to-at.result c.link_to-at.ensures.leads
    c.link_to-at.ensures.place

pub take_out-requires-clause-index : goal.take_out-requires-clause-index
take_out-requires-clause-index g c =
    subst (λ p. c.args.index < length (content (chunk_at c.self.inside.cells.slots p)))
    (sym c.link_to-at.ensures.place)
    (in-content c.self.inside c.args.self.now c.self.view_is c.self.invariant c.args.list
    c.requires.list c.args.spot c.requires.spot
    c.args.index c.requires.index)

pub link_beside-newer-requires-clause-first : goal.link_beside-newer-requires-clause-first
link_beside-newer-requires-clause-first g c = c.self.invariant.first ∙ sym c.take_out.ensures.at

pub link_beside-newer-requires-clause-place : goal.link_beside-newer-requires-clause-place
link_beside-newer-requires-clause-place g c =
    newer-within c.self.inside c.args.self.now c.self.view_is c.self.invariant c.args.list
    c.requires.list c.index-chain.result.now c.index-chain.ensures c.args.spot c.requires.spot
    c.args.index c.requires.index c.take_out.new.cells.slots c.link_to-at.result
    c.link_to-at.ensures.place c.take_out.ensures.slots

pub free_chunk-requires-clause-there : goal.free_chunk-requires-clause-there
free_chunk-requires-clause-there g c =
    subst (λ a. IsAt a c.take_out.new.cells.slots c.link_to-at.result) (sym c.take_out.ensures.at)
    (chunk-there c.self.inside c.args.self.now c.self.view_is c.self.invariant c.args.list
    c.requires.list c.index-chain.result.now c.index-chain.ensures c.args.spot c.requires.spot
    c.args.index c.requires.index c.take_out.new.cells.slots c.link_to-at.result
    c.link_to-at.ensures.place c.take_out.ensures.slots
    c.link_to-at.ensures.leads)

pub free_chunk-requires-clause-newer : goal.free_chunk-requires-clause-newer
free_chunk-requires-clause-newer g c =
    subst (λ a. IfSome c.link_beside-newer.result (IsAt a c.take_out.new.cells.slots))
    (sym c.take_out.ensures.at)
    (newer-there c.self.inside c.args.self.now c.self.view_is c.self.invariant c.args.list
    c.requires.list c.index-chain.result.now c.index-chain.ensures c.args.spot c.requires.spot
    c.args.index c.requires.index c.take_out.new.cells.slots c.link_to-at.result
    c.link_to-at.ensures.place c.take_out.ensures.slots
    c.link_to-at.ensures.leads c.link_beside-newer.result c.link_beside-newer.ensures.place
    (subst (λ a. IfSome c.link_beside-newer.result (Leads a)) c.take_out.ensures.at
    c.link_beside-newer.ensures.leads))

pub free_chunk-requires-clause-some : goal.free_chunk-requires-clause-some
free_chunk-requires-clause-some g c = omega (arith, c.if-chain-gt1.true)

pub free_chunk-requires-clause-few : goal.free_chunk-requires-clause-few
free_chunk-requires-clause-few g c =
    few-free c.self.inside c.args.self.now c.self.view_is c.self.invariant

-- what a removal leaves that gives the chunk back
gives-back : (g : Over) (c : goal.After-free-then-chain-gt1-1 g)
    → IsLeft c.args.self.now c.args.list
    (set_groups c.args.self.now c.args.list
    (removed_in c.args.spot.group c.args.index (groups_of c.args.self.now c.args.list)))
    (record c.self.inside {
      chains = with_item c.self.inside.chains (c.args.list - 1) c.free_chunk.result.0;
      free = c.free_chunk.result.1;
      cells = c.free_chunk.new.cells;
    })
gives-back g c =
    freed c.self.inside c.args.self.now c.self.view_is c.self.invariant c.args.list c.requires.list
    c.index-chain.result.now c.index-chain.ensures c.args.spot c.requires.spot
    c.args.index c.requires.index c.take_out.new.cells.slots c.link_to-at.result
    c.link_to-at.ensures.place c.take_out.ensures.slots c.link_to-at.ensures.leads
    (omega (
      arith,
      c.if-take_out-eq0.true,
      c.take_out.ensures.left,
      ap (λ p. length (remove (content (chunk_at c.self.inside.cells.slots p)) c.args.index))
          c.link_to-at.ensures.place,
    ))
    (omega (arith, c.if-chain-gt1.true))
    (record c.self.inside {
      chains = with_item c.self.inside.chains (c.args.list - 1) c.free_chunk.result.0;
      free = c.free_chunk.result.1;
      cells = c.free_chunk.new.cells;
    })
    (record {
      at = c.free_chunk.ensures.at ∙ c.take_out.ensures.at;
      first = refl;
      count = refl;
      unmade = refl;
      deed = c.self.invariant.deed;
    })
    c.link_beside-newer.result c.link_beside-newer.ensures.place
    c.free_chunk.result.0 c.free_chunk.ensures.slots c.free_chunk.ensures.chain refl
    c.free_chunk.ensures.free.0 c.free_chunk.ensures.free.1

pub invariant_of-self : goal.invariant_of-self
invariant_of-self g c = (gives-back g c).kept

pub returns-then-chain-gt1-clause-groups : goal.returns-then-chain-gt1-clause-groups
returns-then-chain-gt1-clause-groups g c = (gives-back g c).are

pub returns-then-chain-gt1-clause-size : goal.returns-then-chain-gt1-clause-size
returns-then-chain-gt1-clause-size g c = (gives-back g c).size

pub returns-then-chain-gt1-clause-placed : goal.returns-then-chain-gt1-clause-placed
returns-then-chain-gt1-clause-placed g c = (gives-back g c).placed

pub returns-then-chain-gt1-clause-others : goal.returns-then-chain-gt1-clause-others
returns-then-chain-gt1-clause-others g c = (gives-back g c).others

pub invariant_of-self-else-chain-gt1 : goal.invariant_of-self-else-chain-gt1
invariant_of-self-else-chain-gt1 g c =
    (stays c.self.inside c.args.self.now c.self.view_is c.self.invariant c.args.list c.requires.list
    c.index-chain.result.now c.index-chain.ensures c.args.spot c.requires.spot
    c.args.index c.requires.index c.take_out.new.cells.slots c.link_to-at.result
    c.link_to-at.ensures.place c.take_out.ensures.slots
    (inr (omega (arith, c.if-chain-gt1.false)))
    (record c.self.inside { cells = c.take_out.new.cells })
    (record {
      at = c.take_out.ensures.at;
      first = refl;
      count = refl;
      unmade = refl;
      deed = c.self.invariant.deed;
    }) refl refl refl).kept

pub invariant_of-self-else-take_out-eq0 : goal.invariant_of-self-else-take_out-eq0
invariant_of-self-else-take_out-eq0 g c =
    (stays c.self.inside c.args.self.now c.self.view_is c.self.invariant c.args.list c.requires.list
    c.index-chain.result.now c.index-chain.ensures c.args.spot c.requires.spot
    c.args.index c.requires.index c.take_out.new.cells.slots c.link_to-at.result
    c.link_to-at.ensures.place c.take_out.ensures.slots
    (inl (omega (
      arith,
      c.if-take_out-eq0.false,
      c.take_out.ensures.left,
      ap (λ p. length (remove (content (chunk_at c.self.inside.cells.slots p)) c.args.index))
          c.link_to-at.ensures.place,
    ))) (record c.self.inside { cells = c.take_out.new.cells })
    (record {
      at = c.take_out.ensures.at;
      first = refl;
      count = refl;
      unmade = refl;
      deed = c.self.invariant.deed;
    }) refl refl refl).kept

-- what a removal leaves that gives no chunk back
left : (g : Over) (c : goal.Joined-else-take_out-eq0 g)
    → IsLeft c.args.self.now c.args.list
    (set_groups c.args.self.now c.args.list
    (removed_in c.args.spot.group c.args.index (groups_of c.args.self.now c.args.list)))
    (record c.self.inside { cells = c.take_out.new.cells })
left g c = elim c.else-take_out-eq0.branch [
  | else-take_out-eq0-via-then-take_out-eq0+else-chain-gt1 w ↦
      (stays c.self.inside c.args.self.now c.self.view_is c.self.invariant c.args.list
      c.requires.list c.index-chain.result.now c.index-chain.ensures c.args.spot c.requires.spot
      c.args.index c.requires.index c.take_out.new.cells.slots c.link_to-at.result
      c.link_to-at.ensures.place c.take_out.ensures.slots
      (inr (omega (arith, w.if-chain-gt1.false)))
      (record c.self.inside { cells = c.take_out.new.cells })
      (record {
        at = c.take_out.ensures.at;
        first = refl;
        count = refl;
        unmade = refl;
        deed = c.self.invariant.deed;
      }) refl refl refl)
  | else-take_out-eq0-via-else-take_out-eq0 w ↦
      (stays c.self.inside c.args.self.now c.self.view_is c.self.invariant c.args.list
      c.requires.list c.index-chain.result.now c.index-chain.ensures c.args.spot c.requires.spot
      c.args.index c.requires.index c.take_out.new.cells.slots c.link_to-at.result
      c.link_to-at.ensures.place c.take_out.ensures.slots
      (inl (omega (
        arith,
        w.if-take_out-eq0.false,
        c.take_out.ensures.left,
        ap (λ p. length (remove (content (chunk_at c.self.inside.cells.slots p)) c.args.index))
            c.link_to-at.ensures.place,
      ))) (record c.self.inside { cells = c.take_out.new.cells })
      (record {
        at = c.take_out.ensures.at;
        first = refl;
        count = refl;
        unmade = refl;
        deed = c.self.invariant.deed;
      }) refl refl refl)
]

pub returns-else-take_out-eq0-clause-groups : goal.returns-else-take_out-eq0-clause-groups
returns-else-take_out-eq0-clause-groups g c = elim c.else-take_out-eq0.branch [
  | else-take_out-eq0-via-then-take_out-eq0+else-chain-gt1 w ↦ ap
      (λ (s : Chunks). s.groups) w.self-is ∙ (left g c).are
  | else-take_out-eq0-via-else-take_out-eq0 w ↦ ap (λ (s : Chunks). s.groups) w.self-is
      ∙ (left g c).are
]

pub returns-else-take_out-eq0-clause-size : goal.returns-else-take_out-eq0-clause-size
returns-else-take_out-eq0-clause-size g c = elim c.else-take_out-eq0.branch [
  | else-take_out-eq0-via-then-take_out-eq0+else-chain-gt1 w ↦ ap (λ (s : Chunks). s.size) w.self-is
      ∙ (left g c).size
  | else-take_out-eq0-via-else-take_out-eq0 w ↦ ap (λ (s : Chunks). s.size) w.self-is
      ∙ (left g c).size
]

pub returns-else-take_out-eq0-clause-placed : goal.returns-else-take_out-eq0-clause-placed
returns-else-take_out-eq0-clause-placed g c = elim c.else-take_out-eq0.branch [
  | else-take_out-eq0-via-then-take_out-eq0+else-chain-gt1 w ↦ subst IsPlaced (sym w.self-is)
      (left g c).placed
  | else-take_out-eq0-via-else-take_out-eq0 w ↦ subst IsPlaced (sym w.self-is) (left g c).placed
]

pub returns-else-take_out-eq0-clause-others : goal.returns-else-take_out-eq0-clause-others
returns-else-take_out-eq0-clause-others g c = elim c.else-take_out-eq0.branch [
  | else-take_out-eq0-via-then-take_out-eq0+else-chain-gt1 w ↦ subst
      (λ s. KeepOthers c.args.self.now s c.args.list) (sym w.self-is) (left g c).others
  | else-take_out-eq0-via-else-take_out-eq0 w ↦ subst
      (λ s. KeepOthers c.args.self.now s c.args.list) (sym w.self-is) (left g c).others
]
