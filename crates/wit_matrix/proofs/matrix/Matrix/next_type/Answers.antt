use Rattle.std.proofs.Common.{◌≡◌, ◌<◌, ◌≤◌, ℕ, false, ap, sym, ◌∙◌, subst, inl, inr, arith}
use Rattle.std.proofs.lemmas.Bool.{cases_eq}
use Rattle.wit_model.specs.Trace.Paths.{leads}
use Rattle.wit_matrix.specs.Relation.{Relation}
use Rattle.wit_matrix.specs.Squares.{HasNone}
use Rattle.wit_matrix.proofs.Ways.{find_first, find_none, skipped}
use Rattle.wit_matrix.proofs.matrix.Matrix.next_type.Goals as goal

pub returns-then-next-self-clause-value : goal.returns-then-next-self-clause-value
returns-then-next-self-clause-value c =
    let size : c.self.inside.size ≡ c.args.self.now.size =
    ap (λ (m : Relation). m.size) c.self.view_is in
    let none =
    subst (λ words. HasNone c.self.inside.size words c.args.from.0 c.loop-number.number
    c.skip.result) c.deref.ensures.value c.skip.ensures.none in
    find_none (leads c.args.self.now.orders c.args.from.0 c.args.to.0) 1 c.args.self.now.size
    (λ t lo hi. skipped c.self.inside.size c.self.inside.direct.items c.self.inside.found.items
    c.args.self.now c.self.view_is c.args.from.0 c.args.to.0 c.loop-number.number
    c.skip.result c.requires.from c.loop-number.invariant.passed none t lo (omega (arith, hi))
    (omega (arith, size, hi)))

pub returns-then-leads-clause-value : goal.returns-then-leads-clause-value
returns-then-leads-clause-value c =
    let size : c.self.inside.size ≡ c.args.self.now.size =
    ap (λ (m : Relation). m.size) c.self.view_is in
    let none =
    subst (λ words. HasNone c.self.inside.size words c.args.from.0 c.loop-number.number
    c.skip.result) c.deref.ensures.value c.skip.ensures.none in
    find_first (leads c.args.self.now.orders c.args.from.0 c.args.to.0) 1
    c.args.self.now.size c.skip.result
    (omega (arith, c.loop-number.invariant.positive, c.skip.ensures.onward)) (omega (arith, size))
    (λ t lo lt. skipped c.self.inside.size c.self.inside.direct.items c.self.inside.found.items
    c.args.self.now c.self.view_is c.args.from.0 c.args.to.0 c.loop-number.number
    c.skip.result c.requires.from c.loop-number.invariant.passed none t lo
    (omega (arith, size, lt)) lt)
    (sym c.leads.ensures ∙ c.if-leads.true)

pub loop-number-preserved : goal.loop-number-preserved
loop-number-preserved c =
    let size : c.self.inside.size ≡ c.args.self.now.size =
    ap (λ (m : Relation). m.size) c.self.view_is in
    let none =
    subst (λ words. HasNone c.self.inside.size words c.args.from.0 c.loop-number.number
    c.skip.result) c.deref.ensures.value c.skip.ensures.none in
    record {
      positive = omega arith;
      passed = λ t lo lt. elim (cases_eq t c.skip.result) [
        | inl e ↦ subst (λ k. leads c.args.self.now.orders c.args.from.0 c.args.to.0 k ≡ false)
            (sym e) (sym c.leads.ensures ∙ c.if-leads.false)
        | inr apart ↦ skipped c.self.inside.size c.self.inside.direct.items
            c.self.inside.found.items c.args.self.now c.self.view_is c.args.from.0 c.args.to.0
            c.loop-number.number
            c.skip.result c.requires.from c.loop-number.invariant.passed none t lo
            (omega (arith, size, lt)) (omega (arith, apart, lt))
      ];
    }

pub returns-clause-value : goal.returns-clause-value
returns-clause-value c =
    let size : c.self.inside.size ≡ c.args.self.now.size =
    ap (λ (m : Relation). m.size) c.self.view_is in
    find_none (leads c.args.self.now.orders c.args.from.0 c.args.to.0) 1 c.args.self.now.size
    (λ t lo hi. c.loop-number.invariant.passed t lo (omega (arith, size, hi)))
