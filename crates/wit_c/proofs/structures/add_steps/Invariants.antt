use Rattle.std.proofs.Common.{◌≡◌, ◌∷◌, ◌++◌, drop}
use Rattle.wit_model.specs.Trace.Paths.{type_numbers}
use Rattle.wit_c.specs.Structures.{steps_told}
use Rattle.wit_c.proofs.structures.add_steps.Given as goal

-- what was told and what is still to come make the whole
abbrev pub invariant-loop-child : goal.invariant-loop-child
invariant-loop-child l =
    l.steps.items ++ steps_told l.verifier (l.parent.0 ∷ type_numbers (drop l.child-index l.others))
    ≡ l.initial.steps.items ++ steps_told l.verifier (l.fn.first.0 ∷ type_numbers l.others)
