use Rattle.std.proofs.Common.{ap, ◌∙◌}
use Rattle.std.specs.Option.{option_map}
use Rattle.wit_model.specs.declared.locks.Lock.{Lock}
use Rattle.wit_model.specs.Rules.Numbers.{with_number}
use Rattle.wit_known.specs.MadeLocks.{MadeLocks}
use Rattle.wit_known.proofs.TypedLocks.{made-with}
use Rattle.wit_known.proofs.locks.Locks.made_as.Goals as goal

pub returns : goal.returns
returns c =
    c.with_number.ensures
    ∙ ap (λ ls. with_number ls c.args.lock.0) c.deref.ensures.value
    ∙ made-with c.self.inside.types.items c.self.inside.made.items c.args.lock.0 c.self.invariant
    ∙ ap (λ (m : MadeLocks). option_map (λ (l : Lock). l.made)
    (with_number m.locks c.args.lock.0)) c.self.view_is
