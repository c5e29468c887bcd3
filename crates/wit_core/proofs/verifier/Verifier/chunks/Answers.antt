use Rattle.wit_core.proofs.Holding.{holds-all}
use Rattle.wit_core.proofs.Seen.{seen_as}
use Rattle.wit_core.proofs.verifier.Verifier.chunks.Goals as goal

pub returns : goal.returns
returns c = holds-all (seen_as c.self.invariant c.self.view_is) c.lists.result.now c.lists.ensures
