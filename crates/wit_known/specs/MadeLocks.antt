-- The locks that were made, as their callers see them.
use Rattle.std.specs.Prelude.{ℕ, List}
use Rattle.wit_model.specs.declared.locks.Lock.{Lock}

-- the locks by their numbers, and for how many more there is memory
pub record MadeLocks : Type 0 where
  pub locks : List Lock
  pub spare : ℕ
