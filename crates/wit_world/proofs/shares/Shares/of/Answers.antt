use Rattle.std.proofs.Common.{ap, sym, ◌∙◌}
use Rattle.std.specs.List.{position}
use Rattle.wit_model.specs.World.Scenes.{RawLock, shares_among}
use Rattle.wit_world.specs.declared.shares.Holder.{Holder}
use Rattle.wit_world.specs.Holders.{is_holder}
use Rattle.wit_world.proofs.Having.{stands, shares-at, absent, shares-absent}
use Rattle.wit_world.proofs.shares.Shares.of.Goals as goal

pub returns-in-Some : goal.returns-in-Some
returns-in-Some c =
    let xs = c.self.inside.holders.items in
    let t = c.args.seat.0 in
    let at =
    stands t xs c.in-Some.place c.index.result.now
    (sym (c.place_of.ensures ∙ ap (position (is_holder t)) c.deref.ensures.value)
    ∙ c.in-Some.is) in
    ap (λ h. h.count) c.index.ensures ∙ sym (shares-at t xs c.in-Some.place c.index.result.now at)
    ∙ ap (λ (k : RawLock). shares_among t k.holders) c.self.view_is

pub returns-in-None : goal.returns-in-None
returns-in-None c =
    let xs = c.self.inside.holders.items in
    let t = c.args.seat.0 in
    let d : Holder = record { seat = c.args.seat; count = 0 } in
    sym (shares-absent t xs d (absent t xs d
    (sym (c.place_of.ensures ∙ ap (position (is_holder t)) c.deref.ensures.value)
    ∙ c.in-None.is)))
    ∙ ap (λ (k : RawLock). shares_among t k.holders) c.self.view_is
