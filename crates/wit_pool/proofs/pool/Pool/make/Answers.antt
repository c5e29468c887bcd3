use Rattle.std.proofs.Common.{[], ◌++◌, length, map, None}
use Rattle.std.proofs.Common.{refl, ap, sym, ◌∙◌, subst}
use Rattle.std.specs.List.{range_with_len}
use Rattle.std.specs.Prelude.{Option}
use Rattle.std.proofs.lemmas.List.{append-nil, length-replicate}
use Rattle.wit_model.proofs.Rows.Emptiness.{fresh-shown}
use Rattle.wit_pool.specs.declared.chunk.Chunk.{Chunk}
use Rattle.wit_pool.specs.Chunks.{rows_in, AreBare}
use Rattle.wit_pool.specs.Chains.{chain_chunks}
use Rattle.wit_pool.proofs.Leaving.{no-chunks, all-none}
use Rattle.wit_pool.proofs.Making.{no-rows, all-bare}
use Rattle.wit_pool.proofs.pool.Pool.make.Goals as goal

pub invariant_of-result : goal.invariant_of-result
invariant_of-result g c =
    let cells = c.in_ok-first.cells in
    let none = c.in_ok-first.ensures.1 in
    let empty = c.in_ok-chains.ensures.items_if_clones_equal (λ y e. e) in
    let made =
    fresh-shown c.args.chunks c.args.lists (rows_in cells.slots)
    (map (chain_chunks cells.slots) c.in_ok-chains.chains.items)
    (range_with_len 0 c.args.chunks ++ []) c.requires
    (ap rows_in none ∙ no-rows c.args.chunks)
    (ap (map (chain_chunks cells.slots)) empty ∙ no-chunks cells.slots c.args.lists)
    (append-nil (range_with_len 0 c.args.chunks)) in
    record {
      settled = made.0;
      linked = all-none cells.at cells.slots c.args.lists c.in_ok-chains.chains.items empty;
      spare = refl;
      bare = subst (λ cs. AreBare cs c.args.chunks) (sym none) (all-bare c.args.chunks);
      first = sym c.in_ok-first.ensures.0;
      size = ap length none ∙ length-replicate {A = Option Chunk} c.args.chunks None;
      deed = (c.in_ok-first.ensures.2, c.in_ok-first.ensures.3, c.in_ok-first.ensures.4);
    }

pub returns : goal.returns
returns g c =
    let cells = c.in_ok-first.cells in
    let none = c.in_ok-first.ensures.1 in
    let empty = c.in_ok-chains.ensures.items_if_clones_equal (λ y e. e) in
    (fresh-shown c.args.chunks c.args.lists (rows_in cells.slots)
    (map (chain_chunks cells.slots) c.in_ok-chains.chains.items)
    (range_with_len 0 c.args.chunks ++ []) c.requires
    (ap rows_in none ∙ no-rows c.args.chunks)
    (ap (map (chain_chunks cells.slots)) empty ∙ no-chunks cells.slots c.args.lists)
    (append-nil (range_with_len 0 c.args.chunks))).1
