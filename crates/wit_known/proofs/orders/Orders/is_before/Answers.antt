use Rattle.std.proofs.Common.{◌∙◌}
use Rattle.wit_known.proofs.Relating.{before-by, before-beyond}
use Rattle.wit_known.proofs.orders.Orders.is_before.Goals as goal

pub returns-then-covers : goal.returns-then-covers
returns-then-covers c =
    c.before-then-covers.ensures.value
    ∙ before-by c.self.inside c.self.invariant c.args.self.now c.self.view_is c.args.a.0 c.args.b.0

pub returns-else-covers : goal.returns-else-covers
returns-else-covers c =
    before-beyond c.self.inside c.self.invariant c.args.self.now c.self.view_is c.args.a.0
    c.args.b.0 c.covers.result c.covers.ensures c.if-covers.false
