-- Who stands in a circle waits for somebody; and what leads from each to the next leads round to
-- where it began.
use Rattle.std.proofs.Common.{ℕ, List, [], ◌∷◌}
use Rattle.wit_model.specs.Rules.Circles.{IsQueue, IsCircle}

module _ (waits : ℕ → ℕ → Type 0) where
  next : (a : ℕ) (vs : List ℕ) (b : ℕ) → IsQueue waits a vs b → (x : ℕ) × waits a x
  next a [] b queue = (b, queue)
  next a (v ∷ vs) b queue = (v, queue.0)

  pub first_waits : (threads : List ℕ) → IsCircle waits threads → (t : ℕ) × (u : ℕ) × waits t u
  first_waits [] circle = absurd circle
  first_waits (first ∷ others) circle = let u = next first others first circle in (first, u.0, u.1)

  module _ (Leads : ℕ → ℕ → Type 0) (link : (t u x : ℕ) → waits t u → waits u x
      → Leads t u) (join : (t u x : ℕ) → Leads t u → Leads u x → Leads t x) where
    along : (a : ℕ) (vs : List ℕ) (b : ℕ) → IsQueue waits a vs b → (x : ℕ) → waits b x → Leads a b
    along a [] b queue x beyond = link a b x queue beyond
    along a (v ∷ vs) b queue x beyond =
        let u = next v vs b queue.1 in
        join a v b (link a v u.0 queue.0 u.1) (along v vs b queue.1 x beyond)

    pub round : (threads : List ℕ) → IsCircle waits threads → (t : ℕ) × Leads t t
    round [] circle = absurd circle
    round (first ∷ others) circle = let u =
        next first others first circle in (first, along first others first circle u.0 u.1)
