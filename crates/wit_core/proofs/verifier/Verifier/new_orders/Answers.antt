use Rattle.std.proofs.Common.{◌≡◌, ◌≤◌, true, false, List, IfOk, length, ap, subst, sym, ◌∙◌}
use Rattle.wit_model.specs.declared.locks.TypeNo.{TypeNo}
use Rattle.wit_model.specs.Rules.State.{state_of}
use Rattle.wit_model.specs.Rules.Orders.{is_direct, is_found}
use Rattle.wit_model.proofs.Histories.Accepted.{live-given}
use Rattle.wit_core.proofs.Judged.{request-given, types-given, matrix-sized, seat-within}
use Rattle.wit_core.proofs.Judged.{list-within, judgeable, orders-told}
use Rattle.wit_core.proofs.Seen.{seen_as}
use Rattle.wit_core.proofs.verifier.Verifier.new_orders.Goals as goal

pub new_orders-requires-clause-seat : goal.new_orders-requires-clause-seat
new_orders-requires-clause-seat c =
    seat-within (seen_as c.self.invariant c.self.view_is) c.args.seat.0 c.requires.seat
    c.lists.result.now c.lists.ensures

pub new_orders-requires-clause-lists : goal.new_orders-requires-clause-lists
new_orders-requires-clause-lists c =
    list-within (seen_as c.self.invariant c.self.view_is) c.args.seat.0 c.requires.seat
    c.lists.result.now c.lists.ensures

pub new_orders-requires-clause-sleep : goal.new_orders-requires-clause-sleep
new_orders-requires-clause-sleep c =
    judgeable (seen_as c.self.invariant c.self.view_is) c.args.seat.0 c.requires.seat
    c.lists.result.now c.lists.ensures c.lock_types.result.now c.lock_types.ensures false

pub new_orders-requires-clause-spin : goal.new_orders-requires-clause-spin
new_orders-requires-clause-spin c =
    judgeable (seen_as c.self.invariant c.self.view_is) c.args.seat.0 c.requires.seat
    c.lists.result.now c.lists.ensures c.lock_types.result.now c.lock_types.ensures true

pub new_orders-requires-clause-types : goal.new_orders-requires-clause-types
new_orders-requires-clause-types c =
    types-given (seen_as c.self.invariant c.self.view_is) c.names.result.now c.lock_types.result.now
    c.names.ensures.types c.lock_types.ensures

pub new_orders-requires-clause-asked : goal.new_orders-requires-clause-asked
new_orders-requires-clause-asked c =
    request-given (seen_as c.self.invariant c.self.view_is) c.args.request c.typed_request.result
    c.names.result.now.types c.names.ensures.types c.typed_request.ensures
    (live-given (state_of c.args.self.now) c.args.request.lock.0 c.requires.lock)

pub new_orders-requires-clause-sized : goal.new_orders-requires-clause-sized
new_orders-requires-clause-sized c =
    subst (λ ts. length ts ≤ c.matrix.result.now.size) (sym c.names.ensures.types)
    (matrix-sized (seen_as c.self.invariant c.self.view_is) c.matrix.result.now.size
    (c.matrix.ensures.size ∙ c.orders.ensures.size))

pub returns : goal.returns
returns c =
    subst (λ (orders : List (TypeNo × TypeNo)). IfOk c.new_orders.result
    (λ (new : List (TypeNo × TypeNo)). new ≡ orders))
    (orders-told (seen_as c.self.invariant c.self.view_is) c.args.seat.0 c.requires.seat
    c.lists.result.now c.lists.ensures
    c.names.result.now c.matrix.result.now c.lock_types.result.now c.args.request
    c.typed_request.result c.names.ensures.types c.names.ensures.blessed
    (λ a b. c.matrix.ensures.orders a b ∙ ap (λ os. is_direct os a b) c.orders.ensures.orders)
    (λ a b. ap (λ fs. is_found fs a b) (c.matrix.ensures.found ∙ c.orders.ensures.found))
    c.lock_types.ensures c.typed_request.ensures)
    c.new_orders.ensures
