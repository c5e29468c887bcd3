use Rattle.std.proofs.Common.{arith}
use Rattle.wit_model.specs.Rules.Chunks.{chain_of}
use Rattle.wit_held.proofs.Recording.{stands-short}
use Rattle.wit_tests.proofs.chains.release.Goals as goal

pub forget-requires-clause-once : goal.forget-requires-clause-once
forget-requires-clause-once c =
    stands-short c.args.lock.0 (chain_of c.args.lists.now c.args.list)
    (omega (arith, c.len.ensures.value, c.if-len-le1.true))
