-- What the places of a block end as, once a `&mut` to one of them has ended.
use Rattle.std.specs.Prelude.{ℕ, List, slice_set, Option, Some}
use Rattle.std.specs.Borrow.{Fml, RattleType, MutBor, Lends}
use denote.RawPtr.{Ptr}
use Rattle.wit_pool.specs.Places.{spot}
use Rattle.wit_pool.specs.declared.cells.Cells.{Cells}
use Rattle.wit_pool.specs.declared.chunk.Chunk.{Chunk}
use Rattle.wit_pool.specs.contracts.cells.Cells.{the_row}
use Rattle.wit_pool.specs.contracts.chunk.Chunk.{the_row as chunk_row}

abbrev pub with_slots : {X : Type 0} → Cells X → List (Option X) → Cells X
with_slots c cs = record { mark = c.mark; at = c.at; slots = cs }

-- the place at this address ends with what was left behind the reference
abbrev pub LendsPlace : (R : RattleType) → MutBor (Cells R.Denot) → Ptr → MutBor R.Denot → Fml
LendsPlace R c p r =
    Lends (the_row R) R c r (λ w. with_slots c.now
    (slice_set c.now.slots (spot R c.now.at p) (Some w)))

-- the chunk at this place ends as what was left behind the reference
abbrev pub LendsChunk : MutBor (Cells Chunk) → ℕ → MutBor Chunk → Fml
LendsChunk c p r =
    Lends (the_row chunk_row) chunk_row c r
    (λ w. with_slots c.now (slice_set c.now.slots p (Some w)))
