use Rattle.std.proofs.Common.{◌≡◌, ◌++◌, length, map}
use Rattle.wit_grades.specs.Reading.{shown}
use Rattle.wit_tellings.specs.Facts.{fact_of, facts}
use Rattle.wit_tellings.specs.Heard.{heard}
use Rattle.wit_tellings.proofs.tellings.Tellings.facts.Given as goal

-- what is there, and what is made of the rest, are all
abbrev pub invariant-loop-teller : goal.invariant-loop-teller
invariant-loop-teller l =
    map shown l.all.items ++ map (fact_of (heard l.self)) l.rest ≡ facts (heard l.self) l.tellers

abbrev pub decreases-loop-teller : goal.decreases-loop-teller
decreases-loop-teller l = length l.rest
