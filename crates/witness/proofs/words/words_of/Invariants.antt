use Rattle.std.proofs.Common.{◌≡◌, ◌+◌, length}
use Rattle.witness.specs.CommandLine.{bytes_of}
use Rattle.witness.specs.Words.{StandFrom}
use Rattle.witness.proofs.words.words_of.Given as goal

-- those that were read stand at their places, and the next one is read now
abbrev pub invariant-loop-place : goal.invariant-loop-place
invariant-loop-place g l =
    StandFrom (g.S.Words.is_word l.fn.source) 1 (bytes_of l.words.items)
    × (l.place ≡ length l.words.items + 1)
