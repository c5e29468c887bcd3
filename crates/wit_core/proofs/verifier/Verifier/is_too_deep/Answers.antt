use Rattle.std.proofs.Common.{arith}
use Rattle.wit_core.proofs.Owing.{not-deep}
use Rattle.wit_core.proofs.Seen.{seen_as}
use Rattle.wit_core.proofs.verifier.Verifier.is_too_deep.Goals as goal

pub returns-then-owed-lt-MOST_ACQUISITIONS : goal.returns-then-owed-lt-MOST_ACQUISITIONS
returns-then-owed-lt-MOST_ACQUISITIONS c =
    not-deep (seen_as c.self.invariant c.self.view_is) c.args.seat.0 c.args.lock.0 c.owed.result
    c.owed.ensures
    (let few = c.if-owed-lt-MOST_ACQUISITIONS.true in omega (arith, few))
