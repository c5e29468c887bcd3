use Rattle.std.proofs.Common.{◌≡◌, ◌++◌, length}
use Rattle.std.specs.Prelude.{flat_map}
use Rattle.wit_tellings.specs.Facts.{join_known, joinings}
use Rattle.wit_tellings.specs.Heard.{heard}
use Rattle.wit_tellings.proofs.tellings.Tellings.joinings.Given as goal

-- what is there, and what is made of the rest, are all
abbrev pub invariant-loop-join : goal.invariant-loop-join
invariant-loop-join l =
    l.joined.items ++ flat_map (join_known (heard l.self)) l.rest ≡ joinings (heard l.self)

abbrev pub decreases-loop-join : goal.decreases-loop-join
decreases-loop-join l = length l.rest
