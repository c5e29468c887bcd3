use Rattle.std.proofs.Common.{◌≡◌, ◌-◌, ◌<◌, None, get_or, ap, sym, subst, ◌∙◌, arith}
use Rattle.std.specs.List.{position}
use Rattle.std.proofs.lemmas.Bool.{lt-ltb, le-ltb}
use Rattle.std.proofs.lemmas.List.{get_or_read}
use Rattle.wit_world.specs.declared.shares.Holder.{Holder}
use Rattle.wit_world.specs.Holders.{all_had, is_holder}
use Rattle.wit_world.proofs.Having.{stands, fewer-at, gone-at, absent, fewer-absent}
use Rattle.wit_world.proofs.shares.remove_one.Goals as goal

pub returns-in_default : goal.returns-in_default
returns-in_default c =
    let xs = c.args.holders.now.items in
    let t = c.args.seat.0 in
    let h : Holder = record { seat = c.args.seat; count = 1 } in
    let none : position (is_holder t) xs ≡ None =
    sym (c.place_of.ensures ∙ ap (position (is_holder t)) c.deref.ensures.value)
    ∙ c.in_default.is in
    fewer-absent t xs h (absent t xs h none)

pub returns-then-index-gt1 : goal.returns-then-index-gt1
returns-then-index-gt1 c =
    let xs = c.args.holders.now.items in
    let t = c.args.seat.0 in
    let i = c.in-Some.place in
    let d = c.index_mut.result.now in
    let at =
    stands t xs i d (sym (c.place_of.ensures
    ∙ ap (position (is_holder t)) c.deref.ensures.value) ∙ c.in-Some.is) in
    let same : c.index.result.now ≡ get_or xs i d =
    get_or_read xs i c.index.result.now at.0 c.index.ensures d in
    let many : 1 < (get_or xs i d).count =
    subst (λ (h : Holder). 1 < h.count) same c.if-index-gt1.true in
    fewer-at t xs i d (record d { count = d.count - 1 }) at (lt-ltb 1 (get_or xs i d).count many)
    (ap (λ h. h.seat) c.index_mut.ensures.value)
    (ap (λ h. h.count - 1) c.index_mut.ensures.value)

pub returns-else-index-gt1 : goal.returns-else-index-gt1
returns-else-index-gt1 c =
    let xs = c.args.holders.now.items in
    let t = c.args.seat.0 in
    let i = c.in-Some.place in
    let d = c.index.result.now in
    let at =
    stands t xs i d (sym (c.place_of.ensures
    ∙ ap (position (is_holder t)) c.deref.ensures.value) ∙ c.in-Some.is) in
    let here = ap (λ h. h.count) c.index.ensures in
    let few = c.if-index-gt1.false in
    ap all_had c.leave_out.ensures ∙ gone-at t xs i d at
    (le-ltb 1 (get_or xs i d).count (omega (arith, few, here)))
