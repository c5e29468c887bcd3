use Rattle.std.proofs.Common.{◌≡◌, ◌≤◌, ◌+◌, ◌++◌, length}
use Rattle.wit_merge.specs.Rows.{rows_of}
use Rattle.wit_merge.specs.Texts.{count_if, is_unknown, is_unseen, unseen_rows}
use Rattle.wit_merge.proofs.texts.unseen_text.Given as goal

-- the text and the counts, and those of the rest, are the whole
abbrev pub invariant-loop-key : goal.invariant-loop-key
invariant-loop-key l =
    (l.text.items ++ unseen_rows l.within l.total (rows_of l.rest)
    ≡ unseen_rows l.within l.total (rows_of l.fn.rows))
    × (l.unseen + count_if (is_unseen l.within l.total) (rows_of l.rest)
    ≡ count_if (is_unseen l.within l.total) (rows_of l.fn.rows))
    × (l.unknown + count_if is_unknown (rows_of l.rest) ≡ count_if is_unknown (rows_of l.fn.rows))
    × (l.unseen + length l.rest ≤ length l.fn.rows)
    × (l.unknown + length l.rest ≤ length l.fn.rows)

abbrev pub decreases-loop-key : goal.decreases-loop-key
decreases-loop-key l = length l.rest
