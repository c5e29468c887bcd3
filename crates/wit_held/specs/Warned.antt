-- The held locks of which a seat is warned.
use Rattle.std.specs.Prelude.{Bool, false, List, Option, None, Some}
use Rattle.std.specs.List.{All}
use Rattle.wit_model.specs.declared.locks.Instance.{Instance}
use Rattle.wit_model.specs.declared.locks.LockNo.{LockNo}
use Rattle.wit_model.specs.Rules.Numbers.{IsGiven}
use Rattle.wit_model.specs.Rules.Verdict.{Basis}
use Rattle.wit_model.specs.Rules.Warnings.{is_lock_named}

-- each of these locks has a type
abbrev pub AreTyped : Basis → List Instance → Type 0
AreTyped g c = All (λ (i : Instance). IsGiven g.lock_types i.lock.0) c

-- whether there is a last lock, and it is the named one
abbrev pub is_last_named : Option LockNo → Option Instance → Bool
is_last_named named None = false
is_last_named named (Some i) = is_lock_named named i
