use Rattle.std.proofs.Common.{◌≡◌, ap, sym, ◌∙◌, subst}
use Rattle.wit_model.specs.Rules.Orders.{is_direct}
use Rattle.wit_model.specs.Rules.Numbers.{IsNumber}
use Rattle.wit_matrix.specs.Relation.{Relation}
use Rattle.wit_matrix.specs.Squares.{has}
use Rattle.wit_matrix.proofs.Settled.{direct_holds}
use Rattle.wit_matrix.proofs.matrix.Matrix.direct.Goals as goal

pub returns : goal.returns
returns c =
    let size : c.self.inside.size ≡ c.args.self.now.size =
    ap (λ (m : Relation). m.size) c.self.view_is in
    let at : IsNumber c.self.inside.size c.args.a.0 =
    subst (λ n. IsNumber n c.args.a.0) (sym size) c.requires.a in
    let bt : IsNumber c.self.inside.size c.args.b.0 =
    subst (λ n. IsNumber n c.args.b.0) (sym size) c.requires.b in
    c.has.ensures
    ∙ (ap (λ words. has c.self.inside.size words c.args.a.0 c.args.b.0) c.deref.ensures.value
    ∙ (direct_holds c.self.inside.size c.self.inside.direct.items c.args.a.0 c.args.b.0 at bt
    ∙ ap (λ (m : Relation). is_direct m.orders c.args.a.0 c.args.b.0) c.self.view_is))
