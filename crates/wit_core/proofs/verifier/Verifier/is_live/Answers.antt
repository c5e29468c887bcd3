use Rattle.std.proofs.Common.{◌∙◌}
use Rattle.wit_core.proofs.Now.{live-now}
use Rattle.wit_core.proofs.Seen.{seen_as}
use Rattle.wit_core.proofs.verifier.Verifier.is_live.Goals as goal

pub returns : goal.returns
returns c = c.is_live.ensures ∙ live-now (seen_as c.self.invariant c.self.view_is) c.args.lock.0
