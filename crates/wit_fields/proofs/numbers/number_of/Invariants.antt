use Rattle.std.proofs.Common.{◌≤◌}
use Rattle.wit_fields.proofs.Digits.{Reads}
use Rattle.wit_fields.proofs.numbers.number_of.Given as goal

-- the number so far is that of the bytes so far
abbrev pub invariant-loop-byte : goal.invariant-loop-byte
invariant-loop-byte l = Reads l.word l.byte-index l.number × (l.number ≤ l.most)
