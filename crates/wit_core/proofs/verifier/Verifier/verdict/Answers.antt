use Rattle.std.proofs.Common.{◌≤◌, true, false, length, refl, ap, subst, sym, ◌∙◌}
use Rattle.wit_model.specs.Rules.State.{state_of}
use Rattle.wit_model.specs.Rules.Orders.{is_direct, is_found}
use Rattle.wit_model.proofs.Histories.Accepted.{live-given}
use Rattle.wit_check.specs.Answers.{answer_by}
use Rattle.wit_core.specs.Verdict.{untyped}
use Rattle.wit_core.proofs.Judged.{request-given, types-given, matrix-sized, seat-within}
use Rattle.wit_core.proofs.Judged.{list-within, judgeable, verdict-told, orders-told}
use Rattle.wit_core.proofs.Seen.{seen_as}
use Rattle.wit_core.proofs.verifier.Verifier.verdict.Goals as goal

pub verdict-requires-clause-seat : goal.verdict-requires-clause-seat
verdict-requires-clause-seat c =
    seat-within (seen_as c.self.invariant c.self.view_is) c.args.seat.0 c.requires.seat
    c.lists.result.now c.lists.ensures

pub verdict-requires-clause-lists : goal.verdict-requires-clause-lists
verdict-requires-clause-lists c =
    list-within (seen_as c.self.invariant c.self.view_is) c.args.seat.0 c.requires.seat
    c.lists.result.now c.lists.ensures

pub verdict-requires-clause-sleep : goal.verdict-requires-clause-sleep
verdict-requires-clause-sleep c =
    judgeable (seen_as c.self.invariant c.self.view_is) c.args.seat.0 c.requires.seat
    c.lists.result.now c.lists.ensures c.lock_types.result.now c.lock_types.ensures false

pub verdict-requires-clause-spin : goal.verdict-requires-clause-spin
verdict-requires-clause-spin c =
    judgeable (seen_as c.self.invariant c.self.view_is) c.args.seat.0 c.requires.seat
    c.lists.result.now c.lists.ensures c.lock_types.result.now c.lock_types.ensures true

pub verdict-requires-clause-types : goal.verdict-requires-clause-types
verdict-requires-clause-types c =
    types-given (seen_as c.self.invariant c.self.view_is) c.names.result.now c.lock_types.result.now
    c.names.ensures.types c.lock_types.ensures

pub verdict-requires-clause-asked : goal.verdict-requires-clause-asked
verdict-requires-clause-asked c =
    request-given (seen_as c.self.invariant c.self.view_is) (untyped c.args.asked) c.args.asked
    c.names.result.now.types c.names.ensures.types c.requires.asked
    (live-given (state_of c.args.self.now) c.args.asked.lock.0 c.requires.lock)

pub verdict-requires-clause-sized : goal.verdict-requires-clause-sized
verdict-requires-clause-sized c =
    subst (λ ts. length ts ≤ c.matrix.result.now.size) (sym c.names.ensures.types)
    (matrix-sized (seen_as c.self.invariant c.self.view_is) c.matrix.result.now.size
    (c.matrix.ensures.size ∙ c.orders.ensures.size))

pub returns : goal.returns
returns c =
    ap (λ new. answer_by new c.verdict.result)
    (sym (orders-told (seen_as c.self.invariant c.self.view_is) c.args.seat.0 c.requires.seat
    c.lists.result.now c.lists.ensures
    c.names.result.now c.matrix.result.now c.lock_types.result.now (untyped c.args.asked)
    c.args.asked c.names.ensures.types c.names.ensures.blessed
    (λ a b. c.matrix.ensures.orders a b ∙ ap (λ os. is_direct os a b) c.orders.ensures.orders)
    (λ a b. ap (λ fs. is_found fs a b) (c.matrix.ensures.found ∙ c.orders.ensures.found))
    c.lock_types.ensures c.requires.asked))
    ∙ c.verdict.ensures
    ∙ verdict-told (seen_as c.self.invariant c.self.view_is) c.args.seat.0 c.requires.seat
    c.lists.result.now c.lists.ensures
    c.names.result.now c.matrix.result.now c.lock_types.result.now (untyped c.args.asked)
    c.args.asked c.names.ensures.types c.names.ensures.blessed
    (λ a b. c.matrix.ensures.orders a b ∙ ap (λ os. is_direct os a b) c.orders.ensures.orders)
    (λ a b. ap (λ fs. is_found fs a b) (c.matrix.ensures.found ∙ c.orders.ensures.found))
    c.lock_types.ensures c.requires.asked c.self.inside.profile c.self.inside.watch refl refl
