use Rattle.std.proofs.Common.{set, refl, ap, sym, ◌∙◌}
use Rattle.wit_pool.specs.Chunks.{content}
use Rattle.wit_pool.proofs.chunk.put_at.Goals as goal

pub returns-clause-slots : goal.returns-clause-slots
returns-clause-slots c = record {
  was = c.read_mut-chunk.result.now;
  group = c.write.new.self;
  there = c.read_mut-chunk.ensures.value;
  now = refl;
  holds =
      c.write.ensures ∙ ap (λ g. set g c.args.index c.args.instance)
      (sym (ap content c.read_mut-chunk.ensures.value));
}
