use Rattle.std.proofs.Common.{◌≡◌, ◌++◌, length}
use Rattle.wit_model.specs.Trace.Moving.{with_feeds}
use Rattle.wit_forecast.specs.Owners.{lines_in}
use Rattle.wit_forecast.proofs.certifying.put_lines.Given as goal

-- the text, and the lines that are left, are what is to be written
abbrev pub invariant-loop-line : goal.invariant-loop-line
invariant-loop-line l =
    l.text.items ++ with_feeds (lines_in l.rest)
    ≡ l.initial.text.items ++ with_feeds (lines_in l.lines)

abbrev pub decreases-loop-line : goal.decreases-loop-line
decreases-loop-line l = length l.rest
