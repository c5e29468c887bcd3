use Rattle.std.proofs.Common.{refl, ◌∙◌}
use Rattle.wit_matrix.proofs.Settled.{same_cell}
use Rattle.wit_known.proofs.orders.Orders.cell.Goals as goal

pub returns : goal.returns
returns c =
    rw (← c.self.view_is) (c.cell.ensures
    ∙ same_cell c.self.inside.matrix.orders _ c.self.inside.matrix.found _ c.self.invariant.orders
    (λ i j. refl) c.args.a.0 c.args.b.0)
