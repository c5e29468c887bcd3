use Rattle.wit_alarms.specs.Searching.{IsEnough}
use Rattle.wit_alarms.proofs.pruning.on_circles.Given as goal

abbrev pub invariant-loop : goal.invariant-loop
invariant-loop l = IsEnough l.facts l.kept.items
