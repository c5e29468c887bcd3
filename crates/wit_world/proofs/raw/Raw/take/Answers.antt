use Rattle.std.proofs.Common.{◌≡◌, ◌-◌, ◌<◌, List, length, set, ap, sym, subst, ◌∙◌, arith}
use Rattle.std.proofs.lemmas.List.{set-get_or}
use Rattle.wit_model.specs.Rules.Numbers.{with_changed}
use Rattle.wit_model.specs.World.Scenes.{RawLock, raw_of, shares_among, shares_of, one_more}
use Rattle.wit_world.specs.Shares.{up_to}
use Rattle.wit_world.proofs.Padded.{length-up_to, reached-same, lock-now, changed-now, on_err}
use Rattle.wit_world.proofs.raw.Raw.take.Goals as goal

pub returns-in_err-reach-clause-err : goal.returns-in_err-reach-clause-err
returns-in_err-reach-clause-err c =
    let many = ap length c.self.view_is in
    let count = length-up_to c.self.inside.made c.self.inside.locks.items c.self.invariant in
    let made = c.requires.made.1 in
    let within = c.reach.ensures.within in
    let old = c.self.invariant in
    on_err c.from_residual.result
    (reached-same c.self.inside.made c.self.inside.locks.items c.reach.new.locks.items
    c.reach.ensures.same c.reach.ensures.longer (omega (arith, many, count, made, within, old))
    ∙ c.self.view_is)

pub add-requires : goal.add-requires
add-requires c =
    let l = c.args.lock.0 in
    let xs = c.reach.new.locks.items in
    let many = ap length c.self.view_is in
    let count = length-up_to c.self.inside.made c.self.inside.locks.items c.self.invariant in
    let made = c.requires.made.1 in
    let within = c.reach.ensures.within in
    let old = c.self.invariant in
    let same : up_to c.self.inside.made xs ≡ c.args.self.now =
    reached-same c.self.inside.made c.self.inside.locks.items xs c.reach.ensures.same
    c.reach.ensures.longer (omega (arith, many, count, made, within, old)) ∙ c.self.view_is in
    record {
      few =
          subst (λ (k : RawLock). shares_among c.args.seat.0 k.holders < 18446744073709551615)
          (lock-now c.self.inside.made xs l c.index_mut-shares.result.now c.requires.made.0
          c.in_ok-reach.ensures.ok c.index_mut-shares.ensures.value)
          (subst (λ (raw : List RawLock). shares_of raw c.args.seat.0 l < 18446744073709551615)
          (sym same) c.requires.few);
    }

pub returns-in_err-add-clause-err : goal.returns-in_err-add-clause-err
returns-in_err-add-clause-err c =
    let l = c.args.lock.0 in
    let xs = c.reach.new.locks.items in
    let k = c.index_mut-shares.result.now in
    let many = ap length c.self.view_is in
    let count = length-up_to c.self.inside.made c.self.inside.locks.items c.self.invariant in
    let made = c.requires.made.1 in
    let within = c.reach.ensures.within in
    let old = c.self.invariant in
    let same : up_to c.self.inside.made xs ≡ c.args.self.now =
    reached-same c.self.inside.made c.self.inside.locks.items xs c.reach.ensures.same
    c.reach.ensures.longer (omega (arith, many, count, made, within, old)) ∙ c.self.view_is in
    on_err c.from_residual-in_err-add.result
    (ap (up_to c.self.inside.made)
    (ap (λ x. set xs (l - 1) x) (c.in_err-add.ensures.err ∙ c.index_mut-shares.ensures.value)
    ∙ set-get_or xs (l - 1) k) ∙ same)

pub returns-clause-ok : goal.returns-clause-ok
returns-clause-ok c =
    let l = c.args.lock.0 in
    let xs = c.reach.new.locks.items in
    let f : RawLock → RawLock =
    λ k. record { mode = c.args.mode; holders = one_more c.args.seat.0 k.holders } in
    let many = ap length c.self.view_is in
    let count = length-up_to c.self.inside.made c.self.inside.locks.items c.self.invariant in
    let made = c.requires.made.1 in
    let within = c.reach.ensures.within in
    let old = c.self.invariant in
    let same : up_to c.self.inside.made xs ≡ c.args.self.now =
    reached-same c.self.inside.made c.self.inside.locks.items xs c.reach.ensures.same
    c.reach.ensures.longer (omega (arith, many, count, made, within, old)) ∙ c.self.view_is in
    changed-now c.self.inside.made xs l c.index_mut-shares.result.now c.add.new.self f
    c.requires.made.0 c.in_ok-reach.ensures.ok c.index_mut-shares.ensures.value
    c.in_ok-add.ensures.ok
    ∙ ap (λ raw. with_changed raw l (f (raw_of raw l))) same
