use Rattle.std.proofs.Common.{rules}
use Rattle.wit_model.specs.Rules.Circles.{circle_numbers}
use Rattle.wit_trace.proofs.replaying.views.last_circle.Goals as goal

pub returns-clause-ok : goal.returns-clause-ok
returns-clause-ok g c = (
  circle_numbers c.in_ok-circle.circle,
  c.in_ok-circle.ensures.ok,
  search rules,
  search rules,
)
