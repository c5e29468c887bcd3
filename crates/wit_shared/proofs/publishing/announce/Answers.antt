use Rattle.std.proofs.Common.{◌≡◌, ◌+◌, ◌<◌, ◌≤◌, ◌^◌, true, List, length, reverse, sym, ◌∙◌, subst}
use Rattle.wit_model.specs.declared.calls.Adoption.{Adoption}
use Rattle.wit_model.specs.declared.sizes.TheConstants.Limits.{MOST_TYPES}
use Rattle.wit_model.specs.Rules.Orders.{adopted}
use Rattle.wit_model.specs.Rules.State.{orders_of}
use Rattle.wit_observers.specs.Numbers.{all_fit}
use Rattle.wit_observers.specs.Shown.{Published}
use Rattle.wit_shared.proofs.Few.{fit_more, room_more}
use Rattle.wit_shared.proofs.publishing.announce.Goals as goal

pub publish-requires-clause-room : goal.publish-requires-clause-room
publish-requires-clause-room g c =
    let v = c.args.verifier.now in
    let more = adopted c.args.call.now c.args.reply.now in
    let most : v.start.sizes.types ≤ MOST_TYPES =
    subst (λ n. n ≤ MOST_TYPES) c.most_types-most.ensures.value c.most_types-most.ensures.within.1 in
    subst (λ (p : Published). length p.orders + length c.deref.result.now < 2 ^ 32)
    (sym c.requires.published)
    (subst (λ (os : List Adoption). length (reverse (orders_of v.start v.history))
    + length os < 2 ^ 32)
    (sym (c.deref.ensures.value ∙ c.in_ok-orders.ensures))
    (room_more v.start.sizes.types more (orders_of v.start v.history) c.requires.among
    most c.requires.distinct))

pub publish-requires-clause-fit : goal.publish-requires-clause-fit
publish-requires-clause-fit g c =
    let v = c.args.verifier.now in
    let more = adopted c.args.call.now c.args.reply.now in
    subst (λ (p : Published). all_fit p.size c.deref.result.now ≡ true) (sym c.requires.published)
    (subst (λ (os : List Adoption). all_fit v.start.sizes.types os ≡ true)
    (sym (c.deref.ensures.value ∙ c.in_ok-orders.ensures))
    (fit_more v.start.sizes.types more (orders_of v.start v.history) c.requires.among))
