use Rattle.std.proofs.Common.{◌≡◌, ◌++◌, [], length}
use Rattle.wit_merge.specs.Rows.{rows_of}
use Rattle.wit_merge.specs.Texts.{people_rows}
use Rattle.wit_merge.proofs.texts.people_text.Given as goal

-- the text, and that of the rest, are the whole
abbrev pub invariant-loop-key : goal.invariant-loop-key
invariant-loop-key l =
    l.text.items ++ people_rows l.held (rows_of l.rest) ≡ people_rows [] (rows_of l.fn.rows)

abbrev pub decreases-loop-key : goal.decreases-loop-key
decreases-loop-key l = length l.rest
