use Rattle.std.proofs.Common.{◌≡◌, length}
use Rattle.wit_state.specs.Clean.{first_hindrance}
use Rattle.wit_state.proofs.hindrances.first_hindrance.Given as goal

-- the entries that were looked at have none
abbrev pub invariant-loop-entry : goal.invariant-loop-entry
invariant-loop-entry l = first_hindrance l.profile l.rest ≡ first_hindrance l.profile l.log

abbrev pub decreases-loop-entry : goal.decreases-loop-entry
decreases-loop-entry l = length l.rest
