use Rattle.std.proofs.Common.{◌≡◌, ◌++◌}
use Rattle.wit_known.specs.Listed.{listed}
use Rattle.wit_lines.proofs.prelude.names_of.Given as goal

-- the types so far, and those that are left
abbrev pub invariant-loop-class : goal.invariant-loop-class
invariant-loop-class l = listed l.types.items ++ l.class-iterator.rest.items ≡ l.fn.list
