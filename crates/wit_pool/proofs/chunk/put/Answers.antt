use Rattle.std.proofs.Common.{◌++◌, ◌∷◌, [], refl, ap, sym, ◌∙◌}
use Rattle.wit_pool.specs.Chunks.{content}
use Rattle.wit_pool.proofs.chunk.put.Goals as goal

pub returns-clause-slots : goal.returns-clause-slots
returns-clause-slots c = record {
  was = c.read_mut-chunk.result.now;
  group = c.push.new.self;
  there = c.read_mut-chunk.ensures.value;
  now = refl;
  holds =
      c.push.ensures ∙ ap (λ g. g ++ c.args.instance ∷ [])
      (sym (ap content c.read_mut-chunk.ensures.value));
}
