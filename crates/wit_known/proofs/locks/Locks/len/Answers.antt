use Rattle.std.proofs.Common.{◌≡◌, length, ap, ◌∙◌, arith}
use Rattle.wit_known.specs.MadeLocks.{MadeLocks}
use Rattle.wit_known.proofs.TypedLocks.{length-typed}
use Rattle.wit_known.proofs.locks.Locks.len.Goals as goal

pub returns : goal.returns
returns c =
    let count : c.len.result ≡ length c.self.inside.made.items =
    omega (arith, c.len.ensures, c.self.inside.made.ok.0) in
    count ∙ length-typed c.self.inside.types.items c.self.inside.made.items c.self.invariant
    ∙ ap (λ (m : MadeLocks). length m.locks) c.self.view_is
