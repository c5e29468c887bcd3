use Rattle.std.proofs.Common.{◌≡◌, ℕ, ◌<◌, false, eqb, get_or}
use Rattle.wit_fields.proofs.words.index_of.Given as goal

-- the byte stands nowhere before
abbrev pub invariant-loop-i : goal.invariant-loop-i
invariant-loop-i l = (k : ℕ) → k < l.i → eqb (get_or l.bytes k 0) l.byte ≡ false
