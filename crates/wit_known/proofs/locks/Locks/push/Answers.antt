use Rattle.std.proofs.Common.{List, ◌++◌, ◌∷◌, [], ◌-◌, min, vec_len, ap, ap₂, ◌∙◌}
use Rattle.std.specs.Vec.{vec_capacity}
use Rattle.wit_model.specs.declared.locks.Lock.{Lock}
use Rattle.wit_known.specs.MadeLocks.{MadeLocks}
use Rattle.wit_known.specs.TypedLocks.{typed}
use Rattle.wit_known.proofs.TypedLocks.{typed-more}
use Rattle.wit_known.proofs.locks.Locks.push.Goals as goal

pub returns : goal.returns
returns c =
    let made = c.push_reserved.new.self in
    let types = c.push_reserved-2.new.self in
    ap (λ (ls : List Lock). record {
      locks = ls;
      spare = min (vec_capacity made - vec_len made) (vec_capacity types - vec_len types);
    })
    (ap₂ typed c.push_reserved-2.ensures.items c.push_reserved.ensures.items
    ∙ typed-more c.self.inside.types.items c.self.inside.made.items c.args.lock.type_no
    c.args.lock.made c.self.invariant
    ∙ ap (λ (m : MadeLocks). m.locks ++ c.args.lock ∷ []) c.self.view_is)
