use Rattle.std.proofs.Common.{◌≡◌, ◌<◌, ℕ, true}
use Rattle.wit_shared.specs.Closing.{has_seat}
use Rattle.wit_shared.proofs.closing.missing_of.Given as goal

abbrev pub invariant-loop-number : goal.invariant-loop-number
invariant-loop-number g l = (m : ℕ) → 0 < m → m < l.number → has_seat m l.seats ≡ true
