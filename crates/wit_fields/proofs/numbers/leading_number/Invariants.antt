use Rattle.std.proofs.Common.{◌≤◌, ◌-◌, length}
use Rattle.wit_fields.proofs.Digits.{Reads}
use Rattle.wit_fields.proofs.Leading.{IsPlain}
use Rattle.wit_fields.proofs.numbers.leading_number.Given as goal

-- no space so far, and the number so far is that of the bytes so far
abbrev pub invariant-loop-len : goal.invariant-loop-len
invariant-loop-len l =
    IsPlain l.bytes l.len × (Reads l.bytes l.len l.number
    × ((l.number ≤ l.most) × (l.len ≤ length l.bytes)))

abbrev pub decreases-loop-len : goal.decreases-loop-len
decreases-loop-len l = length l.bytes - l.len
