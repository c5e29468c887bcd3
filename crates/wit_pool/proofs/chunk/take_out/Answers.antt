use Rattle.std.proofs.Common.{refl, ap, sym, ◌∙◌}
use Rattle.std.specs.List.{remove}
use Rattle.wit_pool.specs.Chunks.{content}
use Rattle.wit_pool.proofs.chunk.take_out.Goals as goal

pub returns-clause-slots : goal.returns-clause-slots
returns-clause-slots c = record {
  was = c.read_mut-chunk.result.now;
  group = c.remove.new.self;
  there = c.read_mut-chunk.ensures.value;
  now = refl;
  holds =
      c.remove.ensures ∙ ap (λ g. remove g c.args.index)
      (sym (ap content c.read_mut-chunk.ensures.value));
}
