use Rattle.std.proofs.Common.{◌≡◌, ◌<◌, Some, length, set, ap, sym, ◌∙◌, subst}
use Rattle.wit_pool.specs.Places.{spot, spot_at}
use Rattle.wit_pool.specs.contracts.chunk.Chunk.{the_row}
use Rattle.wit_pool.proofs.chunk.write.Goals as goal

pub put-requires : goal.put-requires
unfolding spot
put-requires c =
    let at = c.args.cells.now.at in
    let e : spot the_row at c.link.result.ptr ≡ c.args.at.place =
    ap (spot the_row at) c.link.ensures ∙ c.requires.leads.number in (
      c.link.ensures ∙ c.requires.leads.address ∙ ap (spot_at the_row at) (sym e),
      subst (λ k. k < length c.args.cells.now.slots) (sym e) c.requires.place,
    )

pub returns-clause-slots : goal.returns-clause-slots
unfolding spot
returns-clause-slots c =
    let at = c.args.cells.now.at in
    let e : spot the_row at c.link.result.ptr ≡ c.args.at.place =
    ap (spot the_row at) c.link.ensures ∙ c.requires.leads.number in
    c.put.ensures.1 ∙ ap (λ k. set c.args.cells.now.slots k (Some c.args.chunk)) e
