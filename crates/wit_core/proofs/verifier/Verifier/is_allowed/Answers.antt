use Rattle.std.proofs.Common.{◌≤◌, not, length, ap, subst, sym, ◌∙◌}
use Rattle.wit_core.proofs.Judged.{types-given, matrix-sized}
use Rattle.wit_core.proofs.Seen.{seen_as}
use Rattle.wit_core.proofs.Warned.{allowed-told, given-by}
use Rattle.wit_core.proofs.verifier.Verifier.is_allowed.Goals as goal

pub invariant_of-basis : goal.invariant_of-basis
invariant_of-basis c = record {
  types =
      types-given (seen_as c.self.invariant c.self.view_is) c.names.result.now
      c.lock_types.result.now c.names.ensures.types c.lock_types.ensures;
  sized = subst (λ ts. length ts ≤ c.matrix.result.now.size) (sym c.names.ensures.types)
      (matrix-sized (seen_as c.self.invariant c.self.view_is) c.matrix.result.now.size
      (c.matrix.ensures.size ∙ c.orders.ensures.size));
}

pub is_allowed-requires : goal.is_allowed-requires
is_allowed-requires c =
    given-by c.self.inside.known.known.locks c.lock_types.result.now c.args.held.lock.0
    c.type_with.result c.lock_types.ensures
    (rw c.locks.ensures at c.type_with.ensures) (c.is_none.ensures ∙ ap not c.if-is_none.false)

pub returns : goal.returns
returns c =
    c.is_allowed.ensures
    ∙ allowed-told (seen_as c.self.invariant c.self.view_is) c.names.result.now c.matrix.result.now
    c.lock_types.result.now c.args.named c.args.flags c.args.held
    c.names.ensures.types c.lock_types.ensures
