-- The value behind the lock.
use Rattle.std.specs.Prelude.{ℕ}
use Rattle.wit_model.specs.Rules.State.{Story}

-- the verifier, and how many seats were handed out
pub record DeskValue : Type 0 where
  pub story : Story
  pub handed : ℕ
