use Rattle.std.proofs.Common.{not, ◌&&◌, eqb, ap, ap₂, sym, ◌∙◌}
use Rattle.std.specs.List.{list_any}
use Rattle.wit_model.specs.declared.locks.TypeNo.{TypeNo}
use Rattle.wit_model.specs.Rules.Orders.{is_direct}
use Rattle.wit_model.specs.Rules.Verdict.{type_held, is_among}
use Rattle.wit_check.proofs.Meeting.{among-orders}
use Rattle.wit_check.proofs.learning.is_new.Goals as goal

pub returns : goal.returns
returns c = λ parents is.
    ap not
    (c.is_among.ensures
    ∙ ap (list_any (λ (o : TypeNo × TypeNo). eqb o.0.0 c.type_held-parent.result.0)) is
    ∙ among-orders c.args.request c.type_held-parent.result.0 parents
    ∙ ap (λ (t : TypeNo). is_among t.0 parents) c.type_held-parent.ensures.value)
    ∙ sym
    (ap₂ (λ a b. (a && not b) && not (is_among (type_held c.args.basis.now c.args.held).0 parents))
    (sym c.is_learnt.ensures ∙ c.if-not-is_learnt.false)
    (ap (λ (t : TypeNo). is_direct c.args.basis.now.orders t.0 c.args.request.type_no.0)
    (sym c.type_held-parent.ensures.value)
    ∙ sym c.is_direct.ensures ∙ c.if-is_direct.false))
