use Rattle.wit_core.proofs.Now.{seat-given}
use Rattle.wit_core.proofs.Seen.{seen_as}
use Rattle.wit_core.proofs.verifier.Verifier.request_of.Goals as goal

pub request_of-requires : goal.request_of-requires
request_of-requires c =
    seat-given (seen_as c.self.invariant c.self.view_is) c.args.seat.0 c.requires
