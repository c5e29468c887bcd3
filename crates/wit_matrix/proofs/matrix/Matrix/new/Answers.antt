use Rattle.wit_matrix.proofs.Edits.{blank_kept, blank}
use Rattle.wit_matrix.proofs.matrix.Matrix.new.Goals as goal

pub invariant_of-result : goal.invariant_of-result
invariant_of-result c =
    blank_kept c.args.n c.in_ok-blank.field-0.items c.in_ok-blank-2.field-0.items
    c.in_ok-blank-3.field-0.items c.in_ok-blank-4.field-0.items c.requires.positive
    c.requires.within
    c.in_ok-blank.ensures.ok c.in_ok-blank-2.ensures.ok c.in_ok-blank-3.ensures.ok
    c.in_ok-blank-4.ensures.ok

pub returns-clause-ok : goal.returns-clause-ok
returns-clause-ok c =
    blank c.args.n c.in_ok-blank.field-0.items c.in_ok-blank-4.field-0.items
    c.in_ok-blank.ensures.ok c.in_ok-blank-4.ensures.ok
