use Rattle.std.proofs.Common.{◌≡◌, ap, sym, arith}
use Rattle.std.proofs.lemmas.Bool.{eq-eqb, ne_eqb}
use Rattle.wit_matrix.specs.Relation.{Relation}
use Rattle.wit_matrix.proofs.Ways.{way_ends, way_lost, way_on}
use Rattle.wit_matrix.proofs.matrix.Matrix.way.Goals as goal

pub returns-then-at-to : goal.returns-then-at-to
returns-then-at-to c =
    let size : c.self.inside.size ≡ c.args.self.now.size =
    ap (λ (m : Relation). m.size) c.self.view_is in
    way_ends c.args.self.now.orders c.args.self.now.size c.args.from.0 c.args.to.0 c.loop-step._step
    c.loop-step.way.items c.push.new.self.items c.loop-step.at c.loop-step.invariant.1
    (omega (arith, size)) c.in_ok-push.ensures.items
    (eq-eqb c.loop-step.at.0 c.args.to.0 c.if-at-to.true)

pub returns-in-None : goal.returns-in-None
returns-in-None c =
    let size : c.self.inside.size ≡ c.args.self.now.size =
    ap (λ (m : Relation). m.size) c.self.view_is in
    way_lost c.args.self.now.orders c.args.self.now.size c.args.from.0 c.args.to.0 c.loop-step._step
    c.loop-step.way.items c.push.new.self.items c.loop-step.at c.loop-step.invariant.1
    (omega (arith, size)) c.in_ok-push.ensures.items
    (ne_eqb c.loop-step.at.0 c.args.to.0 c.if-at-to.false) (sym c.in-None.ensures.value)

pub loop-step-preserved : goal.loop-step-preserved
loop-step-preserved c =
    let size : c.self.inside.size ≡ c.args.self.now.size =
    ap (λ (m : Relation). m.size) c.self.view_is in (
      c.in-Some.ensures.number,
      way_on c.args.self.now.orders c.args.self.now.size c.args.from.0 c.args.to.0 c.loop-step._step
          c.loop-step.way.items c.push.new.self.items c.loop-step.at c.in-Some.next.0
          c.loop-step.invariant.1 (omega (arith, size)) c.in_ok-push.ensures.items
          (ne_eqb c.loop-step.at.0 c.args.to.0 c.if-at-to.false) (sym c.in-Some.ensures.value),
    )
