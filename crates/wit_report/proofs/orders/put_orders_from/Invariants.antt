use Rattle.std.proofs.Common.{◌≡◌, ◌∷◌, ◌++◌, drop, string_bytes}
use Rattle.wit_model.specs.Rules.State.{known_of}
use Rattle.wit_model.specs.Trace.Texts.{order_lines}
use Rattle.wit_model.specs.Trace.Paths.{type_numbers}
use Rattle.wit_report.proofs.orders.put_orders_from.Given as goal

-- what was written and what is still to come make the whole
abbrev pub invariant-loop-child : goal.invariant-loop-child
invariant-loop-child l =
    let k = known_of l.verifier.start l.verifier.history in
    string_bytes l.text ++ order_lines k l.verifier.files
    (l.parent.0 ∷ type_numbers (drop l.child-index l.others))
    ≡ string_bytes l.initial.text ++ order_lines k l.verifier.files
    (l.fn.first.0 ∷ type_numbers l.others)
