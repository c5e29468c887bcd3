use Rattle.std.proofs.Common.{true, false, sym, ap, ◌∙◌, arith}
use Rattle.wit_known.specs.Known.{Facts}
use Rattle.wit_known.specs.Listed.{listed}
use Rattle.wit_known.proofs.Going.{fault-behind}
use Rattle.wit_known.proofs.known.Known.list_fault.Goals as goal

pub returns-then-goes_back : goal.returns-then-goes_back
returns-then-goes_back c =
    fault-behind c.args.most c.args.self.now.known.types c.args.self.now.known.orders
    (listed c.args.list.now) true c.requires
    (sym c.has_bad_name.ensures ∙ c.if-has_bad_name.false)
    (rw (ap (λ (f : Facts). f.known.types) c.self.view_is) at
    (sym c.has_other_class.ensures ∙ c.if-has_other_class.false))
    (let e = rw (ap (λ (f : Facts). f.known.types) c.self.view_is) at c.types_with.ensures in
    omega (arith, e))
    (sym c.has_both_kinds.ensures ∙ c.if-has_both_kinds.false)
    (sym c.has_twin.ensures ∙ c.if-has_twin.false)
    (sym c.goes_back.ensures ∙ c.if-goes_back.true)

pub returns : goal.returns
returns c =
    fault-behind c.args.most c.args.self.now.known.types c.args.self.now.known.orders
    (listed c.args.list.now) false c.requires
    (sym c.has_bad_name.ensures ∙ c.if-has_bad_name.false)
    (rw (ap (λ (f : Facts). f.known.types) c.self.view_is) at
    (sym c.has_other_class.ensures ∙ c.if-has_other_class.false))
    (let e = rw (ap (λ (f : Facts). f.known.types) c.self.view_is) at c.types_with.ensures in
    omega (arith, e))
    (sym c.has_both_kinds.ensures ∙ c.if-has_both_kinds.false)
    (sym c.has_twin.ensures ∙ c.if-has_twin.false)
    (sym c.goes_back.ensures ∙ c.if-goes_back.false)
