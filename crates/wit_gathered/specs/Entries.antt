-- A type with all that was told of it, and its name.
use Rattle.std.specs.Prelude.{ℕ, List}
use Rattle.wit_gathered.specs.declared.types.Facts.{Facts}

pub record Named : Type 0 where
  pub facts : Facts
  pub name : List ℕ
