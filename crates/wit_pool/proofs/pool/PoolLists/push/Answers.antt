use Rattle.std.proofs.Common.{◌-◌, not, refl, sym, ap, subst, ◌∙◌, arith}
use Rattle.std.proofs.lemmas.Bool.{true≢false}
use Rattle.std_alloc.specs.Vec.{with_item}
use Rattle.wit_model.specs.Rules.Chunks.{Chunks, pushed, KeepOthers}
use Rattle.wit_model.proofs.Rows.Settled.{others-kept}
use Rattle.wit_pool.specs.declared.chain.Chain.{Chain}
use Rattle.wit_pool.specs.Chunks.{IsAt}
use Rattle.wit_pool.proofs.Keeping.{in-chains, few, few-unmade, unmade-within}
use Rattle.wit_pool.proofs.Keeping.{placed}
use Rattle.wit_pool.proofs.Leaving.{IsLeft}
use Rattle.wit_pool.specs.Kept.{chunks_in}
use Rattle.wit_pool.proofs.Making.{prepared, prepares, full-there}
use Rattle.wit_pool.proofs.Pushing.{linked-here, newest-there, room, joins, some-free, free-there}
use Rattle.wit_pool.proofs.Pushing.{not-refused, led-at, led-short, opened, refused, refused-groups}
use Rattle.wit_pool.proofs.pool.PoolLists.push.Given.{Over}
use Rattle.wit_pool.proofs.pool.PoolLists.push.Goals as goal

pub overflow_sub-list : goal.overflow_sub-list
overflow_sub-list g c = c.requires.list.0

pub index-chain-requires : goal.index-chain-requires
index-chain-requires g c =
    omega (
      arith,
      in-chains c.self.inside c.args.self.now c.self.view_is c.self.invariant
          c.args.list c.requires.list,
      c.self.inside.chains.ok.0,
    )

pub index_mut-requires : goal.index_mut-requires
index_mut-requires g c =
    omega (
      arith,
      in-chains c.self.inside c.args.self.now c.self.view_is c.self.invariant
          c.args.list c.requires.list,
      c.self.inside.chains.ok.0,
    )

pub open_chunk-requires : goal.open_chunk-requires
open_chunk-requires g c =
    linked-here c.self.inside c.args.self.now c.self.view_is c.self.invariant c.args.list
    c.requires.list c.index-chain.result.now c.index-chain.ensures

pub put-requires-clause-there : goal.put-requires-clause-there
put-requires-clause-there g c =
    newest-there c.self.inside c.args.self.now c.self.view_is c.self.invariant c.args.list
    c.requires.list c.index-chain.result.now c.index-chain.ensures
    c.in-Some.at c.in-Some.ensures.newest

pub put-requires-clause-short : goal.put-requires-clause-short
put-requires-clause-short g c = c.in-Some.ensures.short

-- what a lock in the newest chunk leaves
joined : (g : Over) (c : goal.After-put g)
    → IsLeft c.args.self.now c.args.list (pushed c.args.self.now c.args.list c.args.instance)
    (record {
      chains = c.self.inside.chains;
      free = c.self.inside.free;
      unmade = c.self.inside.unmade;
      first = c.self.inside.first;
      count = c.self.inside.count;
      cells = c.put.new.cells;
      deed = c.self.inside.deed;
      alloc =
          c.self.inside.alloc;
    })
joined g c =
    joins c.self.inside c.args.self.now c.self.view_is c.self.invariant c.args.list c.requires.list
    c.index-chain.result.now c.index-chain.ensures
    c.in-Some.at c.in-Some.ensures.newest c.in-Some.ensures.short
    (record {
      chains = c.self.inside.chains;
      free = c.self.inside.free;
      unmade = c.self.inside.unmade;
      first = c.self.inside.first;
      count = c.self.inside.count;
      cells = c.put.new.cells;
      deed = c.self.inside.deed;
      alloc =
          c.self.inside.alloc;
    })
    (record {
      at = c.put.ensures.at;
      first = refl;
      count = refl;
      unmade = refl;
      deed = c.self.invariant.deed;
    })
    c.args.instance c.put.ensures.slots refl refl

pub invariant_of-self : goal.invariant_of-self
invariant_of-self g c = (joined g c).kept

pub returns-in-Some-clause-result : goal.returns-in-Some-clause-result
returns-in-Some-clause-result g c =
    ap not (sym (room c.self.inside c.args.self.now c.self.view_is c.self.invariant c.args.list
    c.requires.list c.index-chain.result.now c.index-chain.ensures
    c.in-Some.at c.in-Some.ensures.newest c.in-Some.ensures.short))

pub returns-in-Some-clause-groups : goal.returns-in-Some-clause-groups
returns-in-Some-clause-groups g c = (joined g c).are

pub returns-in-Some-clause-size : goal.returns-in-Some-clause-size
returns-in-Some-clause-size g c = (joined g c).size

pub returns-in-Some-clause-placed : goal.returns-in-Some-clause-placed
returns-in-Some-clause-placed g c = (joined g c).placed

pub returns-in-Some-clause-others : goal.returns-in-Some-clause-others
returns-in-Some-clause-others g c = (joined g c).others

pub ready-unmade-requires-clause-first : goal.ready-unmade-requires-clause-first
ready-unmade-requires-clause-first g c = c.self.invariant.first

pub ready-unmade-requires-clause-size : goal.ready-unmade-requires-clause-size
ready-unmade-requires-clause-size g c =
    unmade-within c.self.inside c.args.self.now c.self.view_is c.self.invariant

pub ready-unmade-requires-clause-few : goal.ready-unmade-requires-clause-few
ready-unmade-requires-clause-few g c =
    few-unmade c.self.inside c.args.self.now c.self.view_is c.self.invariant

pub take_free-requires-clause-there : goal.take_free-requires-clause-there
take_free-requires-clause-there g c =
    free-there (prepared c.self.inside c.ready-unmade.new.cells c.ready-unmade.result.0
    c.ready-unmade.result.1)
    c.args.self.now
    (prepares c.self.inside c.args.self.now c.self.view_is c.self.invariant
    c.ready-unmade.new.cells c.ready-unmade.result c.ready-unmade.ensures.at
    c.ready-unmade.ensures.ready).is
    (prepares c.self.inside c.args.self.now c.self.view_is c.self.invariant
    c.ready-unmade.new.cells c.ready-unmade.result c.ready-unmade.ensures.at
    c.ready-unmade.ensures.ready).kept
    c.args.list c.requires.list c.index-chain.result.now c.index-chain.ensures
    (full-there c.self.inside c.args.self.now c.self.view_is c.self.invariant
    c.ready-unmade.new.cells c.ready-unmade.result c.ready-unmade.ensures.at
    c.ready-unmade.ensures.ready c.index-chain.result.now.head (c.in-None.ensures.full refl))
    c.in-Some-head.at c.in-Some-head.is

pub take_free-requires-clause-few : goal.take_free-requires-clause-few
take_free-requires-clause-few g c =
    omega (
      arith,
      few c.self.inside c.args.self.now c.self.view_is c.self.invariant c.args.list c.requires.list
          c.index-chain.result.now,
      ap (λ (ch : Chain). ch.count) c.index-chain.ensures,
    )

pub take_free-requires-clause-some : goal.take_free-requires-clause-some
take_free-requires-clause-some g c =
    some-free (prepared c.self.inside c.ready-unmade.new.cells c.ready-unmade.result.0
    c.ready-unmade.result.1)
    c.args.self.now
    (prepares c.self.inside c.args.self.now c.self.view_is c.self.invariant
    c.ready-unmade.new.cells c.ready-unmade.result c.ready-unmade.ensures.at
    c.ready-unmade.ensures.ready).is
    (prepares c.self.inside c.args.self.now c.self.view_is c.self.invariant
    c.ready-unmade.new.cells c.ready-unmade.result c.ready-unmade.ensures.at
    c.ready-unmade.ensures.ready).kept
    c.args.list c.requires.list c.index-chain.result.now c.index-chain.ensures
    (full-there c.self.inside c.args.self.now c.self.view_is c.self.invariant
    c.ready-unmade.new.cells c.ready-unmade.result c.ready-unmade.ensures.at
    c.ready-unmade.ensures.ready c.index-chain.result.now.head (c.in-None.ensures.full refl))
    c.in-Some-head.at c.in-Some-head.is

pub put-requires-in-Some-head-clause-there : goal.put-requires-in-Some-head-clause-there
put-requires-in-Some-head-clause-there g c =
    subst (λ a. IsAt a c.take_free.new.cells.slots c.in-Some-head.at) (sym c.take_free.ensures.at)
    (led-at (prepared c.self.inside c.ready-unmade.new.cells c.ready-unmade.result.0
    c.ready-unmade.result.1)
    c.args.self.now
    (prepares c.self.inside c.args.self.now c.self.view_is c.self.invariant
    c.ready-unmade.new.cells c.ready-unmade.result c.ready-unmade.ensures.at
    c.ready-unmade.ensures.ready).is
    (prepares c.self.inside c.args.self.now c.self.view_is c.self.invariant
    c.ready-unmade.new.cells c.ready-unmade.result c.ready-unmade.ensures.at
    c.ready-unmade.ensures.ready).kept
    c.args.list c.requires.list c.index-chain.result.now c.index-chain.ensures
    (full-there c.self.inside c.args.self.now c.self.view_is c.self.invariant
    c.ready-unmade.new.cells c.ready-unmade.result c.ready-unmade.ensures.at
    c.ready-unmade.ensures.ready c.index-chain.result.now.head (c.in-None.ensures.full refl))
    c.in-Some-head.at c.in-Some-head.is c.take_free.new.cells.slots
    c.take_free.ensures.slots)

pub put-requires-in-Some-head-clause-short : goal.put-requires-in-Some-head-clause-short
put-requires-in-Some-head-clause-short g c =
    led-short (prepared c.self.inside c.ready-unmade.new.cells c.ready-unmade.result.0
    c.ready-unmade.result.1)
    c.args.self.now
    (prepares c.self.inside c.args.self.now c.self.view_is c.self.invariant
    c.ready-unmade.new.cells c.ready-unmade.result c.ready-unmade.ensures.at
    c.ready-unmade.ensures.ready).is
    (prepares c.self.inside c.args.self.now c.self.view_is c.self.invariant
    c.ready-unmade.new.cells c.ready-unmade.result c.ready-unmade.ensures.at
    c.ready-unmade.ensures.ready).kept
    c.args.list c.requires.list c.index-chain.result.now c.index-chain.ensures
    (full-there c.self.inside c.args.self.now c.self.view_is c.self.invariant
    c.ready-unmade.new.cells c.ready-unmade.result c.ready-unmade.ensures.at
    c.ready-unmade.ensures.ready c.index-chain.result.now.head (c.in-None.ensures.full refl))
    c.in-Some-head.at c.in-Some-head.is c.take_free.new.cells.slots
    c.take_free.ensures.slots

-- what a lock in a chunk that was free leaves
began : (g : Over) (c : goal.After-free-in-Some-head-2-1 g)
    → IsLeft c.args.self.now c.args.list (pushed c.args.self.now c.args.list c.args.instance)
    (record {
      chains = with_item c.self.inside.chains (c.args.list - 1) c.take_free.result.0;
      free = c.take_free.result.1;
      unmade = c.ready-unmade.result.1;
      first = c.self.inside.first;
      count = c.self.inside.count;
      cells = c.put-in-Some-head.new.cells;
      deed = c.self.inside.deed;
      alloc = c.self.inside.alloc;
    })
began g c =
    opened (prepared c.self.inside c.ready-unmade.new.cells c.ready-unmade.result.0
    c.ready-unmade.result.1)
    c.args.self.now
    (prepares c.self.inside c.args.self.now c.self.view_is c.self.invariant
    c.ready-unmade.new.cells c.ready-unmade.result c.ready-unmade.ensures.at
    c.ready-unmade.ensures.ready).is
    (prepares c.self.inside c.args.self.now c.self.view_is c.self.invariant
    c.ready-unmade.new.cells c.ready-unmade.result c.ready-unmade.ensures.at
    c.ready-unmade.ensures.ready).kept
    c.args.list c.requires.list c.index-chain.result.now c.index-chain.ensures
    (full-there c.self.inside c.args.self.now c.self.view_is c.self.invariant
    c.ready-unmade.new.cells c.ready-unmade.result c.ready-unmade.ensures.at
    c.ready-unmade.ensures.ready c.index-chain.result.now.head (c.in-None.ensures.full refl))
    c.in-Some-head.at c.in-Some-head.is c.take_free.new.cells.slots
    c.take_free.ensures.slots
    (record {
      chains = with_item c.self.inside.chains (c.args.list - 1) c.take_free.result.0;
      free = c.take_free.result.1;
      unmade = c.ready-unmade.result.1;
      first = c.self.inside.first;
      count = c.self.inside.count;
      cells = c.put-in-Some-head.new.cells;
      deed = c.self.inside.deed;
      alloc = c.self.inside.alloc;
    })
    (record {
      at = c.put-in-Some-head.ensures.at ∙ c.take_free.ensures.at;
      first = refl;
      count = refl;
      unmade = refl;
      deed = c.self.invariant.deed;
    })
    c.args.instance c.put-in-Some-head.ensures.slots c.take_free.result.0
    c.take_free.ensures.chain.0 c.take_free.ensures.chain.1 refl
    c.take_free.ensures.free.0 c.take_free.ensures.free.1

pub invariant_of-self-in-Some-head : goal.invariant_of-self-in-Some-head
invariant_of-self-in-Some-head g c = (began g c).kept

pub returns-in-Some-head-clause-result : goal.returns-in-Some-head-clause-result
returns-in-Some-head-clause-result g c =
    ap not (sym (not-refused (prepared c.self.inside c.ready-unmade.new.cells c.ready-unmade.result.0
    c.ready-unmade.result.1)
    c.args.self.now
    (prepares c.self.inside c.args.self.now c.self.view_is c.self.invariant
    c.ready-unmade.new.cells c.ready-unmade.result c.ready-unmade.ensures.at
    c.ready-unmade.ensures.ready).is
    (prepares c.self.inside c.args.self.now c.self.view_is c.self.invariant
    c.ready-unmade.new.cells c.ready-unmade.result c.ready-unmade.ensures.at
    c.ready-unmade.ensures.ready).kept
    c.args.list c.requires.list c.index-chain.result.now c.index-chain.ensures
    (full-there c.self.inside c.args.self.now c.self.view_is c.self.invariant
    c.ready-unmade.new.cells c.ready-unmade.result c.ready-unmade.ensures.at
    c.ready-unmade.ensures.ready c.index-chain.result.now.head (c.in-None.ensures.full refl))
    c.in-Some-head.at c.in-Some-head.is))

pub returns-in-Some-head-clause-groups : goal.returns-in-Some-head-clause-groups
returns-in-Some-head-clause-groups g c = (began g c).are

pub returns-in-Some-head-clause-size : goal.returns-in-Some-head-clause-size
returns-in-Some-head-clause-size g c = (began g c).size

pub returns-in-Some-head-clause-placed : goal.returns-in-Some-head-clause-placed
returns-in-Some-head-clause-placed g c = (began g c).placed

pub returns-in-Some-head-clause-others : goal.returns-in-Some-head-clause-others
returns-in-Some-head-clause-others g c = (began g c).others

pub returns-in-Some-head-clause-unchanged : goal.returns-in-Some-head-clause-unchanged
returns-in-Some-head-clause-unchanged g c e = absurd (true≢false e)

pub invariant_of-self-in-None-head : goal.invariant_of-self-in-None-head
invariant_of-self-in-None-head g c = (prepares c.self.inside c.args.self.now c.self.view_is c.self.invariant
    c.ready-unmade.new.cells c.ready-unmade.result c.ready-unmade.ensures.at
    c.ready-unmade.ensures.ready).kept

pub returns-in-None-head-clause-result : goal.returns-in-None-head-clause-result
returns-in-None-head-clause-result g c =
    ap not (sym (refused (prepared c.self.inside c.ready-unmade.new.cells c.ready-unmade.result.0
    c.ready-unmade.result.1)
    c.args.self.now
    (prepares c.self.inside c.args.self.now c.self.view_is c.self.invariant
    c.ready-unmade.new.cells c.ready-unmade.result c.ready-unmade.ensures.at
    c.ready-unmade.ensures.ready).is
    (prepares c.self.inside c.args.self.now c.self.view_is c.self.invariant
    c.ready-unmade.new.cells c.ready-unmade.result c.ready-unmade.ensures.at
    c.ready-unmade.ensures.ready).kept
    c.args.list c.requires.list c.index-chain.result.now c.index-chain.ensures
    (full-there c.self.inside c.args.self.now c.self.view_is c.self.invariant
    c.ready-unmade.new.cells c.ready-unmade.result c.ready-unmade.ensures.at
    c.ready-unmade.ensures.ready c.index-chain.result.now.head (c.in-None.ensures.full refl))
    c.in-None-head.is ((prepares c.self.inside c.args.self.now c.self.view_is c.self.invariant
    c.ready-unmade.new.cells c.ready-unmade.result c.ready-unmade.ensures.at
    c.ready-unmade.ensures.ready).made c.in-None-head.is)))

pub returns-in-None-head-clause-groups : goal.returns-in-None-head-clause-groups
returns-in-None-head-clause-groups g c =
    ap (λ (s : Chunks). s.groups) (prepares c.self.inside c.args.self.now c.self.view_is c.self.invariant
    c.ready-unmade.new.cells c.ready-unmade.result c.ready-unmade.ensures.at
    c.ready-unmade.ensures.ready).is
    ∙ refused-groups (prepared c.self.inside c.ready-unmade.new.cells c.ready-unmade.result.0
    c.ready-unmade.result.1)
    c.args.self.now
    (prepares c.self.inside c.args.self.now c.self.view_is c.self.invariant
    c.ready-unmade.new.cells c.ready-unmade.result c.ready-unmade.ensures.at
    c.ready-unmade.ensures.ready).is
    (prepares c.self.inside c.args.self.now c.self.view_is c.self.invariant
    c.ready-unmade.new.cells c.ready-unmade.result c.ready-unmade.ensures.at
    c.ready-unmade.ensures.ready).kept
    c.args.list c.requires.list c.index-chain.result.now c.index-chain.ensures
    (full-there c.self.inside c.args.self.now c.self.view_is c.self.invariant
    c.ready-unmade.new.cells c.ready-unmade.result c.ready-unmade.ensures.at
    c.ready-unmade.ensures.ready c.index-chain.result.now.head (c.in-None.ensures.full refl))
    c.in-None-head.is ((prepares c.self.inside c.args.self.now c.self.view_is c.self.invariant
    c.ready-unmade.new.cells c.ready-unmade.result c.ready-unmade.ensures.at
    c.ready-unmade.ensures.ready).made c.in-None-head.is)
    c.args.instance

pub returns-in-None-head-clause-size : goal.returns-in-None-head-clause-size
returns-in-None-head-clause-size g c = ap (λ (s : Chunks). s.size) (prepares c.self.inside c.args.self.now c.self.view_is c.self.invariant
    c.ready-unmade.new.cells c.ready-unmade.result c.ready-unmade.ensures.at
    c.ready-unmade.ensures.ready).is

pub returns-in-None-head-clause-placed : goal.returns-in-None-head-clause-placed
returns-in-None-head-clause-placed g c =
    placed (prepared c.self.inside c.ready-unmade.new.cells c.ready-unmade.result.0
    c.ready-unmade.result.1) (chunks_in (prepared c.self.inside c.ready-unmade.new.cells
    c.ready-unmade.result.0 c.ready-unmade.result.1)) refl (prepares c.self.inside c.args.self.now c.self.view_is c.self.invariant
    c.ready-unmade.new.cells c.ready-unmade.result c.ready-unmade.ensures.at
    c.ready-unmade.ensures.ready).kept

pub returns-in-None-head-clause-others : goal.returns-in-None-head-clause-others
returns-in-None-head-clause-others g c =
    subst (λ s. KeepOthers c.args.self.now s c.args.list) (sym (prepares c.self.inside c.args.self.now c.self.view_is c.self.invariant
    c.ready-unmade.new.cells c.ready-unmade.result c.ready-unmade.ensures.at
    c.ready-unmade.ensures.ready).is)
    (others-kept c.args.self.now.places (c.args.list - 1))

pub returns-in-None-head-clause-unchanged : goal.returns-in-None-head-clause-unchanged
returns-in-None-head-clause-unchanged g c e = (prepares c.self.inside c.args.self.now c.self.view_is c.self.invariant
    c.ready-unmade.new.cells c.ready-unmade.result c.ready-unmade.ensures.at
    c.ready-unmade.ensures.ready).is

pub returns-in-Some-clause-unchanged : goal.returns-in-Some-clause-unchanged
returns-in-Some-clause-unchanged g c e = absurd (true≢false e)
