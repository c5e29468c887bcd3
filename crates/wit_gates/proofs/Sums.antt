-- Sums of claims, where one of them changes.
use Rattle.std.proofs.Common.{◌≡◌, ℕ, zero, suc, ◌+◌, ◌≤◌, List, [], ◌∷◌, set, sym, ap, arith}
use Rattle.std.proofs.lemmas.List.Sums.{sum_by-cons}
use Rattle.std.specs.Prelude.{sum_by}
use mathlib.Core.Option.{some, some-injective, some-ne-none}
use lib.ListN.{get_elem?}

module _ {A : Type 0} (f : A → ℕ) where
  -- the sum loses what was there, and gains what is put there
  pub sum-set : (xs : List A) (i : ℕ) (old new : A) → get_elem? xs i ≡ some old
      → sum_by f (set xs i new) + f old ≡ sum_by f xs + f new
  sum-set [] i old new e = absurd (some-ne-none old (sym e))
  sum-set (x ∷ xs) zero old new e = let same : f x ≡ f old =
      ap f (some-injective x old e) in omega (arith, sum_by-cons f new xs, sum_by-cons f x xs)
  sum-set (x ∷ xs) (suc i) old new e =
      omega (arith, sum-set xs i old new e, sum_by-cons f x (set xs i new), sum_by-cons f x xs)

  pub part-le-sum : (xs : List A) (i : ℕ) (part : A) → get_elem? xs i ≡ some part
      → f part ≤ sum_by f xs
  part-le-sum [] i part e = absurd (some-ne-none part (sym e))
  part-le-sum (x ∷ xs) zero part e = let same : f x ≡ f part =
      ap f (some-injective x part e) in omega (arith, sum_by-cons f x xs)
  part-le-sum (x ∷ xs) (suc i) part e = omega (arith, part-le-sum xs i part e, sum_by-cons f x xs)
