use Rattle.std.proofs.Common.{sym, subst, ◌∙◌}
use Rattle.wit_model.specs.Rules.Orders.{IsSound}
use Rattle.wit_model.specs.Trace.Paths.{way, type_numbers}
use Rattle.wit_matrix.specs.Relation.{Relation, OrdersAmong, LeadsBy}
use Rattle.wit_matrix.proofs.Leading.{path_leads}
use Rattle.wit_matrix.proofs.Settled.{direct_among}
use Rattle.wit_matrix.proofs.matrix.Matrix.path.Goals as goal

pub returns-clause-leads : goal.returns-clause-leads
returns-clause-leads c =
    let among : OrdersAmong c.args.self.now.size c.args.self.now.orders =
    subst (λ (m : Relation). OrdersAmong m.size m.orders) c.self.view_is
    (direct_among c.self.inside.size c.self.inside.direct.items) in
    let sound : IsSound c.args.self.now.orders =
    subst (λ (m : Relation). IsSound m.orders) c.self.view_is c.self.invariant.sound in
    let leads : LeadsBy c.args.self.now.orders c.args.a.0 c.args.b.0
    (way c.args.self.now.orders c.args.self.now.size c.args.self.now.size
    c.args.a.0 c.args.b.0) =
    path_leads c.args.self.now.orders c.args.self.now.size c.args.a.0 c.args.b.0 among sound
    c.requires.a (sym c.before-2.ensures.value ∙ c.if-not-before.false) in
    let told : LeadsBy c.args.self.now.orders c.args.a.0 c.args.b.0
    (type_numbers c.in_ok-way.field-0.items) =
    subst (LeadsBy c.args.self.now.orders c.args.a.0 c.args.b.0) (sym c.in_ok-way.ensures) leads in
    told
