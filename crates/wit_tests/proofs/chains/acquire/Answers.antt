use Rattle.std.proofs.Common.{sym, ◌∙◌, subst, arith}
use Rattle.wit_model.specs.Rules.Chunks.{chain_of}
use Rattle.wit_held.specs.Chains.{CanRise}
use Rattle.wit_held.proofs.Recording.{stands-short}
use Rattle.wit_tests.proofs.chains.acquire.Goals as goal

pub record_new-requires-clause-new : goal.record_new-requires-clause-new
record_new-requires-clause-new c = sym c.oldest_held.ensures ∙ c.in-None.is

pub record-requires-clause-once : goal.record-requires-clause-once
record-requires-clause-once c =
    stands-short c.args.taken.lock.0 (chain_of c.args.lists.now c.args.list)
    (omega (arith, c.len.ensures.value, c.if-len-gt1.false))

pub record-requires-clause-shallow : goal.record-requires-clause-shallow
record-requires-clause-shallow c =
    subst CanRise (sym c.in-Some.is ∙ c.oldest_held.ensures) c.if-held-lt-DEEPEST.true
