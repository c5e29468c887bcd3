use Rattle.std.proofs.Common.{◌≡◌, Some, set, refl, ap, sym, ◌∙◌}
use Rattle.wit_pool.specs.Places.{spot, spot_at}
use Rattle.wit_pool.specs.Chunks.{chunk_at}
use Rattle.wit_pool.specs.Lending.{with_slots}
use Rattle.wit_pool.specs.contracts.chunk.Chunk.{the_row}
use Rattle.wit_pool.proofs.chunk.read_mut.Goals as goal

pub get_mut-requires : goal.get_mut-requires
unfolding spot
get_mut-requires c =
    let at = c.args.cells.now.at in
    let e : spot the_row at c.link.result.ptr ≡ c.args.at.place =
    ap (spot the_row at) c.link.ensures ∙ c.requires.leads.number in (
      c.link.ensures ∙ c.requires.leads.address ∙ ap (spot_at the_row at) (sym e),
      (c.requires.chunk, ap (chunk_at c.args.cells.now.slots) e ∙ c.requires.there),
    )

pub returns : goal.returns
unfolding spot
returns c =
    let cells = c.args.cells.now in
    let e : spot the_row cells.at c.link.result.ptr ≡ c.args.at.place =
    ap (spot the_row cells.at) c.link.ensures ∙ c.requires.leads.number in (
      (refl, λ w. ap (λ p. with_slots cells (set cells.slots p (Some w))) e),
      record {
        writes_back = tt;
        value = sym (ap (chunk_at cells.slots) e)
            ∙ c.get_mut.ensures.value;
      },
    )
