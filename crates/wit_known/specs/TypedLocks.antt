-- The locks that were made, as they are kept: what each was made as, and beside it its type.
use Rattle.std.specs.Prelude.{◌≡◌, ◌-◌, List, [], ◌∷◌, length, min, vec_len}
use Rattle.std.specs.Vec.{vec_capacity}
use Rattle.wit_model.specs.declared.calls.NewLock.{NewLock}
use Rattle.wit_model.specs.declared.locks.Lock.{Lock}
use Rattle.wit_model.specs.declared.locks.TypeNo.{TypeNo}
use Rattle.wit_known.specs.MadeLocks.{MadeLocks}
use Rattle.wit_known.specs.declared.locks.Locks.TheInside.{Inside}

-- what was made, each with its type
abbrev pub typed : List TypeNo → List NewLock → List Lock
typed (t ∷ types) (lock ∷ made) = record { type_no = t; made = lock } ∷ typed types made
typed _ _ = []

abbrev pub made_in : Inside → MadeLocks
made_in k = record {
  locks = typed k.types.items k.made.items;
  spare = min (vec_capacity k.made - vec_len k.made) (vec_capacity k.types - vec_len k.types);
}

-- each has a type
abbrev pub AreTyped : Inside → Type 0
AreTyped k = length k.types.items ≡ length k.made.items
