use Rattle.std.proofs.Common.{◌≡◌, ◌+◌, ◌-◌, ◌<◌, ◌≤◌, ℕ, false}
use Rattle.wit_model.specs.Trace.Paths.{leads}
use Rattle.wit_matrix.proofs.matrix.Matrix.next_type.Given as goal

abbrev pub invariant-loop-number : goal.invariant-loop-number
invariant-loop-number l = record {
  positive : 1 ≤ l.number;
  passed : (t : ℕ) → 1 ≤ t → t < l.number → leads l.self.orders l.from.0 l.to.0 t ≡ false;
}

abbrev pub decreases-loop-number : goal.decreases-loop-number
decreases-loop-number l = l.self.size + 1 - l.number
