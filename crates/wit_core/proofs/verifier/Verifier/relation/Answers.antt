use Rattle.wit_core.proofs.Apt.{given-number}
use Rattle.wit_core.proofs.verifier.Verifier.relation.Goals as goal

pub cell-requires-clause-a : goal.cell-requires-clause-a
cell-requires-clause-a c =
    given-number c.self.inside c.self.invariant.tied _ _ c.args.a.0 c.is_type.result
    c.names.ensures.types c.orders.ensures.size c.is_type.ensures c.if-is_type.true

pub cell-requires-clause-b : goal.cell-requires-clause-b
cell-requires-clause-b c =
    given-number c.self.inside c.self.invariant.tied _ _ c.args.b.0 c.is_type-then-is_type.result
    c.names-then-is_type.ensures.types c.orders.ensures.size c.is_type-then-is_type.ensures
    c.if-is_type-2.true
