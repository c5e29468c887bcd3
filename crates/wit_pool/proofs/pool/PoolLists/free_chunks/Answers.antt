use Rattle.std.proofs.Common.{length, ap, sym, ◌∙◌, arith}
use Rattle.wit_model.specs.Rules.Chunks.{Chunks}
use Rattle.wit_pool.proofs.Keeping.{count-free}
use Rattle.wit_pool.proofs.Keeping.{placed, few-unmade, few-free}
use Rattle.wit_pool.proofs.pool.PoolLists.free_chunks.Goals as goal

pub returns-clause-free : goal.returns-clause-free
returns-clause-free g c =
    sym (count-free c.self.inside c.args.self.now c.self.view_is c.self.invariant)
    ∙ ap (λ (s : Chunks). length s.unused) c.self.view_is

pub returns-clause-placed : goal.returns-clause-placed
returns-clause-placed g c = placed c.self.inside c.args.self.now c.self.view_is c.self.invariant

pub overflow_add-result : goal.overflow_add-result
overflow_add-result g c = record {
  fits =
      omega (
        arith,
        few-unmade c.self.inside c.args.self.now c.self.view_is c.self.invariant,
        few-free c.self.inside c.args.self.now c.self.view_is c.self.invariant,
      );
}
