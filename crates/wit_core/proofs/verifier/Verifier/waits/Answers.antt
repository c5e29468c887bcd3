use Rattle.wit_waiting.proofs.Waits.{seat-number}
use Rattle.wit_core.proofs.verifier.Verifier.waits.Goals as goal

pub held-requires-2 : goal.held-requires-2
held-requires-2 c = seat-number c.args.self.now c.args.other.0 c.requires.other
