-- A log as its callers see it.
use Rattle.std.specs.Prelude.{ℕ, List}
use Rattle.wit_model.specs.declared.calls.Entry.{Entry}

-- the entries, newest first, and how many there may be; how many are owed, and for how many more
-- there is memory
pub record Journal : Type 0 where
  pub limit : ℕ
  pub history : List Entry
  pub owed : ℕ
  pub spare : ℕ
