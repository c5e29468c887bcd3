use Rattle.std.proofs.Common.{◌≡◌, length, filter, take}
use Rattle.wit_model.specs.Rules.Warnings.{is_allowed}
use Rattle.wit_held.proofs.warnings.allowed_in.Given as goal

abbrev pub invariant-loop-held : goal.invariant-loop-held
invariant-loop-held g l =
    l.allowed ≡ length (filter (is_allowed (g.T.LockTypes.basis l.types) l.named l.flags)
    (take l.held-index l.chunk))
