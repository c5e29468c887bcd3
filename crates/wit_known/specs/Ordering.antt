-- Orders as their callers see them.
use Rattle.std.specs.Prelude.{ℕ, List}
use Rattle.wit_model.specs.declared.calls.Adoption.{Adoption}
use Rattle.wit_model.specs.declared.locks.TypeNo.{TypeNo}

-- how many types there may be; the orders with their origins, newest first; the pairs found in
-- violation, as the matrix has them; and for how many more orders there is memory
pub record Ordering : Type 0 where
  pub size : ℕ
  pub orders : List Adoption
  pub found : List (TypeNo × TypeNo)
  pub spare : ℕ
