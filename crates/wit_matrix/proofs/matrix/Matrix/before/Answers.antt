use Rattle.std.proofs.Common.{◌≡◌, ap, sym, ◌∙◌, subst}
use Rattle.wit_model.specs.Rules.Orders.{is_before}
use Rattle.wit_model.specs.Rules.Numbers.{IsNumber}
use Rattle.wit_model.proofs.Orders.Paths.{before_from_test, test_from_before}
use Rattle.wit_matrix.specs.Relation.{Relation}
use Rattle.wit_matrix.specs.Squares.{has}
use Rattle.wit_matrix.proofs.matrix.Matrix.before.Goals as goal

pub returns-clause-path : goal.returns-clause-path
returns-clause-path c =
    let size : c.self.inside.size ≡ c.args.self.now.size =
    ap (λ (m : Relation). m.size) c.self.view_is in
    let at : IsNumber c.self.inside.size c.args.a.0 =
    subst (λ n. IsNumber n c.args.a.0) (sym size) c.requires.a in
    let bt : IsNumber c.self.inside.size c.args.b.0 =
    subst (λ n. IsNumber n c.args.b.0) (sym size) c.requires.b in
    let value : c.has.result ≡ is_before c.args.self.now.orders c.args.a.0 c.args.b.0 =
    c.has.ensures
    ∙ (ap (λ words. has c.self.inside.size words c.args.a.0 c.args.b.0) c.deref.ensures.value
    ∙ (c.self.invariant.tells_before c.args.a.0 c.args.b.0 at bt
    ∙ ap (λ (m : Relation). is_before m.orders c.args.a.0 c.args.b.0) c.self.view_is)) in (
      λ is. before_from_test c.args.self.now.orders c.args.a.0 c.args.b.0 (sym value ∙ is),
      λ p. value ∙ test_from_before c.args.self.now.orders c.args.a.0 c.args.b.0 p,
    )
