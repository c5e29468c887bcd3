-- Which types there may be, and when an order between two can be adopted.
use Rattle.std.specs.Prelude.{ℕ, ◌≡◌, false, List}
use Rattle.std.specs.List.{AllByRecursion}
use Rattle.wit_model.specs.declared.calls.Adoption.{Adoption}
use Rattle.wit_model.specs.declared.locks.TypeNo.{TypeNo}
use Rattle.wit_model.specs.Rules.Orders.{is_before}
use Rattle.wit_model.specs.Rules.Numbers.{IsNumber}

-- c can come behind p: both are among n types, they differ, and c isn't before p
pub record CanFollow (n : ℕ) (orders : List Adoption) (p c : ℕ) : Type 0 where
  pub parent : IsNumber n p
  pub child : IsNumber n c
  pub apart : p ≡ c → ⊥
  pub orderly : is_before orders c p ≡ false

-- orders that are all behind one child, each of which can be adopted
abbrev pub CanAllFollow : ℕ → List Adoption → List (TypeNo × TypeNo) → Type 0
CanAllFollow n orders pairs =
    (child : TypeNo) × AllByRecursion (λ (p : TypeNo × TypeNo). (p.1 ≡ child)
    × CanFollow n orders p.0.0 p.1.0) pairs
