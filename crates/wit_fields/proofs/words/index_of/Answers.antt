use Rattle.std.proofs.Common.{length, eqb, sym, arith}
use Rattle.std.proofs.lemmas.Bool.{eq-eqb}
use Rattle.std.proofs.lemmas.List.Sums.{position_or_len_is}
use Rattle.wit_fields.proofs.words.index_of.Goals as goal

pub returns-then-b-byte-clause-place : goal.returns-then-b-byte-clause-place
returns-then-b-byte-clause-place c =
    sym (position_or_len_is (λ b. eqb b c.args.byte) c.args.bytes.now c.loop-i.i 0
    (omega arith) c.loop-i.invariant (λ _. eq-eqb _ _ c.if-b-byte.true))

pub returns-clause-place : goal.returns-clause-place
returns-clause-place c =
    let n = length c.args.bytes.now in
    sym (position_or_len_is (λ b. eqb b c.args.byte) c.args.bytes.now n 0 (omega arith)
    (λ k lt. c.loop-i.invariant k (omega arith)) (λ lt. absurd (omega arith)))
