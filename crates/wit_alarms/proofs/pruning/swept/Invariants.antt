use Rattle.std.proofs.Common.{◌++◌, length}
use Rattle.wit_alarms.specs.Searching.{IsEnough}
use Rattle.wit_alarms.proofs.pruning.swept.Given as goal

-- what is kept and what is left are enough
abbrev pub invariant-loop-first : goal.invariant-loop-first
invariant-loop-first l = IsEnough l.facts (l.kept.items ++ l.rest)

abbrev pub decreases-loop-first : goal.decreases-loop-first
decreases-loop-first l = length l.rest
