use Rattle.std.proofs.Common.{◌∙◌, sym}
use Rattle.wit_known.proofs.Relating.{among-them, path-told, leads-told, wanting-told}
use Rattle.wit_known.proofs.orders.Orders.path.Goals as goal

pub path-requires-clause-a : goal.path-requires-clause-a
path-requires-clause-a c =
    (among-them c.self.inside c.self.invariant c.args.self.now c.self.view_is c.args.from.0
    c.args.to.0 c.is_before.result c.is_before.ensures c.if-not-is_before.false).0

pub path-requires-clause-b : goal.path-requires-clause-b
path-requires-clause-b c =
    (among-them c.self.inside c.self.invariant c.args.self.now c.self.view_is c.args.from.0
    c.args.to.0 c.is_before.result c.is_before.ensures c.if-not-is_before.false).1

pub returns-clause-ok : goal.returns-clause-ok
returns-clause-ok c =
    path-told c.self.inside c.self.invariant c.args.self.now c.self.view_is c.args.from.0
    c.args.to.0 c.is_before.result c.is_before.ensures c.if-not-is_before.false
    c.size-size.ensures.sound c.path.result c.path.ensures.ok

pub returns-clause-leads : goal.returns-clause-leads
returns-clause-leads c =
    leads-told c.self.inside c.self.invariant c.args.self.now c.self.view_is c.args.from.0
    c.args.to.0 c.path.result c.path.ensures.leads

pub returns-clause-err : goal.returns-clause-err
returns-clause-err c =
    wanting-told c.path.result _ _ c.path.ensures.err
    (sym c.is_before.ensures ∙ c.if-not-is_before.false)
