use Rattle.std.proofs.Common.{◌<◌, List, ap, sym, subst, ◌∙◌, arith}
use Rattle.wit_model.specs.Rules.Numbers.{with_changed}
use Rattle.wit_model.specs.World.Scenes.{RawLock, raw_of, shares_of, one_fewer}
use Rattle.wit_world.proofs.Padded.{changed-now, had-within}
use Rattle.wit_world.proofs.raw.Raw.free.Goals as goal

pub index_mut-shares-requires : goal.index_mut-shares-requires
index_mut-shares-requires c =
    let had = had-within c.self.inside.made c.self.inside.locks.items c.args.seat.0 c.args.lock.0
    (subst (λ (raw : List RawLock). 0 < shares_of raw c.args.seat.0 c.args.lock.0)
    (sym c.self.view_is) c.requires) in
    omega (arith, had.0, had.1, c.self.inside.locks.ok.0)

pub returns : goal.returns
returns c =
    let l = c.args.lock.0 in
    let f : RawLock → RawLock = λ k. record k { holders = one_fewer c.args.seat.0 k.holders } in
    let had = had-within c.self.inside.made c.self.inside.locks.items c.args.seat.0 l
    (subst (λ (raw : List RawLock). 0 < shares_of raw c.args.seat.0 l)
    (sym c.self.view_is) c.requires) in
    changed-now c.self.inside.made c.self.inside.locks.items l c.index_mut-shares.result.now
    c.remove.new.self f had.0 had.1 c.index_mut-shares.ensures.value c.remove.ensures
    ∙ ap (λ raw. with_changed raw l (f (raw_of raw l))) c.self.view_is
