use Rattle.std.proofs.Common.{◌≤◌, false, length, subst, sym, ◌∙◌}
use Rattle.wit_core.proofs.Judged.{types-given, matrix-sized, seat-within, list-within, judgeable}
use Rattle.wit_core.proofs.Seen.{seen_as}
use Rattle.wit_core.proofs.Warned.{warned-told}
use Rattle.wit_core.proofs.verifier.Verifier.warned.Goals as goal

pub invariant_of-basis : goal.invariant_of-basis
invariant_of-basis c = record {
  types =
      types-given (seen_as c.self.invariant c.self.view_is) c.names.result.now
      c.lock_types.result.now c.names.ensures.types c.lock_types.ensures;
  sized = subst (λ ts. length ts ≤ c.matrix.result.now.size) (sym c.names.ensures.types)
      (matrix-sized (seen_as c.self.invariant c.self.view_is) c.matrix.result.now.size
      (c.matrix.ensures.size ∙ c.orders.ensures.size));
}

pub warn_count-requires-clause-seat : goal.warn_count-requires-clause-seat
warn_count-requires-clause-seat c =
    seat-within (seen_as c.self.invariant c.self.view_is) c.args.seat.0
    (sym c.is_seat.ensures ∙ c.if-not-is_seat.false) c.lists.result.now c.lists.ensures

pub warn_count-requires-clause-lists : goal.warn_count-requires-clause-lists
warn_count-requires-clause-lists c =
    list-within (seen_as c.self.invariant c.self.view_is) c.args.seat.0
    (sym c.is_seat.ensures ∙ c.if-not-is_seat.false) c.lists.result.now c.lists.ensures

pub warn_count-requires-clause-typed : goal.warn_count-requires-clause-typed
warn_count-requires-clause-typed c =
    (judgeable (seen_as c.self.invariant c.self.view_is) c.args.seat.0
    (sym c.is_seat.ensures ∙ c.if-not-is_seat.false) c.lists.result.now c.lists.ensures
    c.lock_types.result.now c.lock_types.ensures false).typed

pub returns : goal.returns
returns c =
    c.warn_count.ensures
    ∙ warned-told (seen_as c.self.invariant c.self.view_is) c.args.seat.0
    (sym c.is_seat.ensures ∙ c.if-not-is_seat.false) c.lists.result.now c.lists.ensures
    c.names.result.now c.matrix.result.now c.lock_types.result.now
    c.args.named c.args.flags c.names.ensures.types c.lock_types.ensures
