use Rattle.std.proofs.Common.{map, ap, sym, ◌∙◌}
use Rattle.wit_model.specs.declared.locks.Lock.{Lock}
use Rattle.wit_known.specs.MadeLocks.{MadeLocks}
use Rattle.wit_known.proofs.TypedLocks.{types-of}
use Rattle.wit_known.proofs.locks.Locks.types.Goals as goal

pub returns : goal.returns
returns c =
    c.deref.ensures.value
    ∙ sym (types-of c.self.inside.types.items c.self.inside.made.items c.self.invariant)
    ∙ ap (λ (m : MadeLocks). map (λ (l : Lock). l.type_no) m.locks) c.self.view_is
