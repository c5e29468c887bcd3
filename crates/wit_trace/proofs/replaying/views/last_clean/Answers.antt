use Rattle.std.proofs.Common.{rules}
use Rattle.wit_trace.proofs.replaying.views.last_clean.Goals as goal

pub returns-clause-ok : goal.returns-clause-ok
returns-clause-ok g c = (c.args.against, search rules, search rules)
