use Rattle.std.proofs.Common.{◌≡◌, ap, sym, ◌∙◌}
use Rattle.wit_pool.specs.Places.{spot, spot_at}
use Rattle.wit_pool.specs.Chunks.{chunk_at}
use Rattle.wit_pool.specs.contracts.chunk.Chunk.{the_row}
use Rattle.wit_pool.proofs.chunk.read.Goals as goal

pub get-requires : goal.get-requires
unfolding spot
get-requires c =
    let at = c.args.cells.now.at in
    let e : spot the_row at c.link.result.ptr ≡ c.args.at.place =
    ap (spot the_row at) c.link.ensures ∙ c.requires.leads.number in (
      c.link.ensures ∙ c.requires.leads.address ∙ ap (spot_at the_row at) (sym e),
      (c.requires.chunk, ap (chunk_at c.args.cells.now.slots) e ∙ c.requires.there),
    )

pub returns : goal.returns
unfolding spot
returns c =
    let at = c.args.cells.now.at in
    let e : spot the_row at c.link.result.ptr ≡ c.args.at.place =
    ap (spot the_row at) c.link.ensures ∙ c.requires.leads.number in
    sym (ap (chunk_at c.args.cells.now.slots) e) ∙ c.get.ensures
