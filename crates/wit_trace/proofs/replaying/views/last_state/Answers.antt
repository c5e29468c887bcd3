use Rattle.std.proofs.Common.{rules}
use Rattle.wit_model.specs.Rules.Circles.{circle_numbers}
use Rattle.wit_trace.proofs.replaying.views.last_state.Goals as goal

pub returns-clause-ok : goal.returns-clause-ok
returns-clause-ok g c = (
  c.args.against,
  circle_numbers c.in_ok-seats.seats,
  c.in_ok-seats.ensures.ok,
  search rules,
  search rules,
)
