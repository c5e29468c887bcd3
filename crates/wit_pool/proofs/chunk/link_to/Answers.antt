use Rattle.std.proofs.Common.{ap, sym, ◌∙◌, arith}
use Rattle.wit_pool.specs.Places.{spot, spot_at}
use Rattle.wit_pool.specs.contracts.chunk.Chunk.{the_row}
use Rattle.wit_pool.proofs.chunk.link_to.Goals as goal

pub returns-clause-leads : goal.returns-clause-leads
unfolding spot
returns-clause-leads c = record {
  address =
      c.to.ensures.0 ∙ c.link.ensures.0 ∙ ap (spot_at the_row c.args.cells.now.at)
      (sym c.to.ensures.1);
  number =
      ap (spot the_row c.args.cells.now.at) c.to.ensures.0 ∙ c.link.ensures.1 (omega arith)
      ∙ sym c.to.ensures.1;
}
