use Rattle.std.proofs.Common.{◌≤◌, List, length, ap, subst, sym, ◌∙◌}
use Rattle.wit_model.specs.declared.locks.Lock.{Lock}
use Rattle.wit_model.specs.declared.locks.TypeNo.{TypeNo}
use Rattle.wit_model.specs.Rules.Locks.{lock_at}
use Rattle.wit_model.specs.Rules.Numbers.{IsGiven}
use Rattle.wit_model.specs.Rules.Orders.{is_direct}
use Rattle.wit_model.specs.Rules.State.{state_of}
use Rattle.wit_model.proofs.Histories.Accepted.{live-given}
use Rattle.wit_core.proofs.Judged.{asked-given, matrix-sized, definition-told}
use Rattle.wit_core.proofs.Seen.{seen_as}
use Rattle.wit_core.proofs.verifier.Verifier.definition.Goals as goal

pub define-verdict-requires-clause-first : goal.define-verdict-requires-clause-first
define-verdict-requires-clause-first c =
    subst (λ ts. IsGiven ts c.type_of-parent.result.0) (sym c.names.ensures.types)
    (subst (λ (n : TypeNo). IsGiven c.self.inside.known.known.types n.0)
    (sym (c.type_of-parent.ensures
    ∙ ap (λ (ls : List Lock). (lock_at ls c.args.first.0).type_no) c.locks.ensures))
    (asked-given (seen_as c.self.invariant c.self.view_is) c.args.first.0
    (live-given (state_of c.args.self.now) c.args.first.0 c.requires.first)))

pub define-verdict-requires-clause-second : goal.define-verdict-requires-clause-second
define-verdict-requires-clause-second c =
    subst (λ ts. IsGiven ts c.type_of-child.result.0) (sym c.names.ensures.types)
    (subst (λ (n : TypeNo). IsGiven c.self.inside.known.known.types n.0)
    (sym (c.type_of-child.ensures
    ∙ ap (λ (ls : List Lock). (lock_at ls c.args.second.0).type_no) c.locks-2.ensures))
    (asked-given (seen_as c.self.invariant c.self.view_is) c.args.second.0
    (live-given (state_of c.args.self.now) c.args.second.0 c.requires.second)))

pub define-verdict-requires-clause-sized : goal.define-verdict-requires-clause-sized
define-verdict-requires-clause-sized c =
    subst (λ ts. length ts ≤ c.matrix.result.now.size) (sym c.names.ensures.types)
    (matrix-sized (seen_as c.self.invariant c.self.view_is) c.matrix.result.now.size
    (c.matrix.ensures.size ∙ c.orders.ensures.size))

pub returns : goal.returns
returns c =
    c.defined.ensures ∙ c.define-verdict.ensures.answer
    ∙ definition-told (seen_as c.self.invariant c.self.view_is) c.names.result.now
    c.matrix.result.now c.args.first.0 c.args.second.0
    c.type_of-parent.result c.type_of-child.result c.names.ensures.types
    (λ a b. c.matrix.ensures.orders a b ∙ ap (λ os. is_direct os a b) c.orders.ensures.orders)
    (c.type_of-parent.ensures ∙ ap (λ (ls : List Lock). (lock_at ls c.args.first.0).type_no)
    c.locks.ensures)
    (c.type_of-child.ensures ∙ ap (λ (ls : List Lock). (lock_at ls c.args.second.0).type_no)
    c.locks-2.ensures)
