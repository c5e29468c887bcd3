use Rattle.std.proofs.Common.{◌≡◌, ◌+◌, ◌<◌, ◌≤◌, ◌^◌, true, [], length, reverse, ap, sym, ◌∙◌}
use Rattle.std.proofs.Common.{subst, arith}
use Rattle.std.proofs.lemmas.List.{reverse-reverse}
use Rattle.wit_model.specs.declared.sizes.TheConstants.Limits.{MOST_TYPES}
use Rattle.wit_model.specs.Rules.State.{orders_of}
use Rattle.wit_observers.specs.Numbers.{all_fit}
use Rattle.wit_observers.specs.Shown.{Published}
use Rattle.wit_shared.proofs.Few.{fit_all, room_all}
use Rattle.wit_shared.proofs.opening.publisher_of.Goals as goal

pub publish-requires-clause-room : goal.publish-requires-clause-room
publish-requires-clause-room g c =
    let v = c.args.verifier.now in
    let orders = orders_of v.start v.history in
    let is = sym (reverse-reverse c.orders.result.now) ∙ ap reverse c.orders.ensures.orders in
    let most : v.start.sizes.types ≤ MOST_TYPES =
    subst (λ n. n ≤ MOST_TYPES) c.most_types-size.ensures.value c.most_types-size.ensures.within.1 in
    let room =
    room_all v.start.sizes.types orders c.orders.ensures.among most c.orders.ensures.distinct in
    subst (λ (p : Published). length p.orders + length c.orders.result.now < 2 ^ 32)
    (sym c.in_ok-publisher.ensures)
    (subst (λ os. 0 + length os < 2 ^ 32) (sym is) (omega (arith, room)))

pub publish-requires-clause-fit : goal.publish-requires-clause-fit
publish-requires-clause-fit g c =
    let v = c.args.verifier.now in
    let orders = orders_of v.start v.history in
    let is = sym (reverse-reverse c.orders.result.now) ∙ ap reverse c.orders.ensures.orders in
    subst (λ (p : Published). all_fit p.size c.orders.result.now ≡ true)
    (sym c.in_ok-publisher.ensures)
    (subst (λ n. all_fit n c.orders.result.now ≡ true) (sym c.most_types-size.ensures.value)
    (subst (λ os. all_fit v.start.sizes.types os ≡ true) (sym is)
    (fit_all v.start.sizes.types orders c.orders.ensures.among)))
