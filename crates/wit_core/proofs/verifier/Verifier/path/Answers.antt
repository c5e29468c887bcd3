use Rattle.wit_core.proofs.Apt.{path-kept, leads-kept, wanting-kept}
use Rattle.wit_core.proofs.verifier.Verifier.path.Goals as goal

pub returns-clause-ok : goal.returns-clause-ok
returns-clause-ok c =
    rw (← c.self.view_is) (path-kept c.self.inside c.self.invariant.tied c.orders.result.now.orders
    c.args.from.0 c.args.to.0 c.path.result c.orders.ensures.orders c.path.ensures.ok)

pub returns-clause-leads : goal.returns-clause-leads
returns-clause-leads c =
    rw (← c.self.view_is) (leads-kept c.self.inside c.self.invariant.tied c.orders.result.now.orders
    c.args.from.0 c.args.to.0 c.path.result c.orders.ensures.orders c.path.ensures.leads)

pub returns-clause-err : goal.returns-clause-err
returns-clause-err c =
    rw (← c.self.view_is) (wanting-kept c.self.inside c.self.invariant.tied
    c.orders.result.now.orders c.args.from.0 c.args.to.0 c.path.result c.orders.ensures.orders
    c.path.ensures.err)
