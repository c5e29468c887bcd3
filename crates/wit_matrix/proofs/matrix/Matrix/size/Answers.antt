use Rattle.std.proofs.Common.{subst}
use Rattle.wit_model.specs.Rules.Orders.{IsSound}
use Rattle.wit_matrix.specs.Relation.{Relation}
use Rattle.wit_matrix.proofs.matrix.Matrix.size.Goals as goal

pub returns-clause-sound : goal.returns-clause-sound
returns-clause-sound c =
    subst (λ (m : Relation). IsSound m.orders) c.self.view_is c.self.invariant.sound
