use Rattle.std.proofs.Common.{◌≡◌, ◌++◌, length}
use Rattle.wit_against.specs.Answers.{way_text}
use Rattle.wit_against.specs.Judging.{known}
use Rattle.wit_against.proofs.answers.put_way.Given as goal

-- the text, and that of the rest, are the whole
abbrev pub invariant-loop-to : goal.invariant-loop-to
invariant-loop-to l =
    l.text.items ++ way_text (known l.orders) l.from l.rest
    ≡ l.initial.text.items ++ way_text (known l.orders) l.first l.way

abbrev pub decreases-loop-to : goal.decreases-loop-to
decreases-loop-to l = length l.rest
