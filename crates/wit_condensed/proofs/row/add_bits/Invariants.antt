use Rattle.std.proofs.Common.{ℕ, ◌≡◌, ◌||◌, take}
use Rattle.wit_condensed.specs.Chains.{has_type}
use Rattle.wit_condensed.specs.Rows.{has_bit}
use Rattle.wit_condensed.proofs.row.add_bits.Given as goal

abbrev pub invariant-links : goal.invariant-links
invariant-links l =
    (a : ℕ) → has_bit l.row a ≡ (has_bit l.initial.row a || has_type (take l.link-index l.links) a)
