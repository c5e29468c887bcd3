use Rattle.std.proofs.Common.{sym, subst}
use Rattle.wit_pool.specs.Chunks.{Leads, HasChunkAt}
use Rattle.wit_pool.proofs.chain.free_chunk.Goals as goal

pub lead-requires : goal.lead-requires
lead-requires c =
    let there : HasChunkAt c.pass-head.new.cells.slots c.args.at.place =
    c.pass-head.ensures.there c.args.at.place (c.requires.there.chunk, c.requires.there.there) in
    record {
      leads = subst (λ a. Leads a c.args.at) (sym c.pass-head.ensures.at) c.requires.there.leads;
      chunk = there.0;
      there = there.1;
    }
