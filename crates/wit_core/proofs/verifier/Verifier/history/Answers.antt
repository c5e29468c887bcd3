use Rattle.wit_core.proofs.Apart.{apart_kept}
use Rattle.wit_core.proofs.verifier.Verifier.history.Goals as goal

pub returns-clause-accepted : goal.returns-clause-accepted
returns-clause-accepted c = rw (← c.self.view_is) c.self.invariant.tied.started

pub returns-clause-legal : goal.returns-clause-legal
returns-clause-legal c = rw (← c.self.view_is) c.self.invariant.tied.legal

pub returns-clause-apart : goal.returns-clause-apart
returns-clause-apart c = rw (← c.self.view_is) (apart_kept c.self.inside c.self.invariant.tied)
