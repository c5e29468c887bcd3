-- In a circle each waits for another one, and is waited for.
use Rattle.std.proofs.Common.{ℕ, List, [], ◌∷◌}
use Rattle.wit_model.specs.Rules.Circles.{IsQueue}

module _ (waits : ℕ → ℕ → Type 0) where
  -- the first one of a queue waits
  pub first-waits : (t : ℕ) (ts : List ℕ) (last : ℕ) → IsQueue waits t ts last
      → (u : ℕ) × waits t u
  first-waits t [] last queue = (last, queue)
  first-waits t (c ∷ ts) last queue = (c, queue.0)

  -- and the last one is waited for
  pub last-waited_for : (t : ℕ) (ts : List ℕ) (last : ℕ) → IsQueue waits t ts last
      → (p : ℕ) × waits p last
  last-waited_for t [] last queue = (t, queue)
  last-waited_for t (c ∷ ts) last queue = last-waited_for c ts last queue.1
