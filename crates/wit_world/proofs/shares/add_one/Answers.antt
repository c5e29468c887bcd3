use Rattle.std.proofs.Common.{◌≡◌, ◌+◌, None, refl, ap, sym, ◌∙◌, arith}
use Rattle.std.specs.List.{position}
use Rattle.wit_world.specs.declared.shares.Holder.{Holder}
use Rattle.wit_world.specs.Holders.{all_had, is_holder}
use Rattle.wit_world.proofs.Having.{stands, shares-at, more-at, absent, more-absent}
use Rattle.wit_world.proofs.shares.add_one.Goals as goal

pub returns-in_default-clause-ok : goal.returns-in_default-clause-ok
returns-in_default-clause-ok c =
    let xs = c.args.holders.now.items in
    let t = c.args.seat.0 in
    let h : Holder = record { seat = c.args.seat; count = 1 } in
    let none : position (is_holder t) xs ≡ None =
    sym (c.place_of.ensures ∙ ap (position (is_holder t)) c.deref.ensures.value)
    ∙ c.in_default.is in
    ap all_had c.in_ok-push.ensures.items ∙ more-absent t xs h h (absent t xs h none) refl refl

pub overflow_add-index_mut : goal.overflow_add-index_mut
overflow_add-index_mut c =
    let xs = c.args.holders.now.items in
    let t = c.args.seat.0 in
    let d = c.index_mut.result.now in
    let at =
    stands t xs c.in-Some.place d
    (sym (c.place_of.ensures ∙ ap (position (is_holder t)) c.deref.ensures.value)
    ∙ c.in-Some.is) in
    let few = c.requires.few in
    let had = shares-at t xs c.in-Some.place d at in
    let here = ap (λ h. h.count) c.index_mut.ensures.value in
    omega (arith, few, had, here)

pub returns-clause-ok : goal.returns-clause-ok
returns-clause-ok c =
    let xs = c.args.holders.now.items in
    let t = c.args.seat.0 in
    let d = c.index_mut.result.now in
    let at =
    stands t xs c.in-Some.place d
    (sym (c.place_of.ensures ∙ ap (position (is_holder t)) c.deref.ensures.value)
    ∙ c.in-Some.is) in
    more-at t xs c.in-Some.place d (record d { count = d.count + 1 }) at
    (ap (λ h. h.seat) c.index_mut.ensures.value)
    (ap (λ h. h.count + 1) c.index_mut.ensures.value)
