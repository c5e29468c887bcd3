use Rattle.std.proofs.Common.{◌≡◌, ◌++◌, length}
use Rattle.wit_circles.specs.Orders.{told_of}
use Rattle.wit_against.specs.Answers.{told_text}
use Rattle.wit_against.specs.Judging.{known}
use Rattle.wit_against.proofs.answers.put_all.Given as goal

-- the text, and that of the rest, are the whole
abbrev pub invariant-loop-against : goal.invariant-loop-against
invariant-loop-against l =
    l.text.items ++ told_text (known l.orders) (told_of l.rest)
    ≡ l.initial.text.items ++ told_text (known l.orders) (told_of l.told)

abbrev pub decreases-loop-against : goal.decreases-loop-against
decreases-loop-against l = length l.rest
