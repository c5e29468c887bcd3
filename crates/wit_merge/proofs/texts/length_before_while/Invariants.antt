use Rattle.std.proofs.Common.{◌≡◌, ℕ, ◌<◌, false, drop}
use Rattle.wit_merge.specs.Texts.{begins_while}
use Rattle.wit_merge.proofs.texts.length_before_while.Given as goal

-- the word stands nowhere before
abbrev pub invariant-loop-place : goal.invariant-loop-place
invariant-loop-place l = (k : ℕ) → k < l.place → begins_while (drop k l.origin) ≡ false
