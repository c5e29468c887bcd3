-- The chunks of a pool as its callers see them, and what is kept.
use Rattle.std.specs.Prelude.{◌≡◌, List, ℕ, ◌++◌, map, length}
use Rattle.std.specs.List.{All, range_with_len}
use Rattle.wit_model.specs.declared.locks.Instance.{Instance}
use Rattle.wit_model.specs.Rules.Chunks.{Chunks}
use Rattle.wit_model.specs.Rules.Rows.{shown_chunks, AreSettled}
use Rattle.wit_pool.specs.declared.pool.Pool.TheInside.{Inside}
use Rattle.wit_pool.specs.Chunks.{rows_in, AreBare}
use Rattle.wit_pool.specs.Chains.{chain_chunks, IsLinked}

-- what each chunk holds, by its place
abbrev pub rows_of : {A : Type 0} → Inside A → List (List Instance)
rows_of v = rows_in v.cells.slots

-- the chunks of each list, oldest first
abbrev pub lists_of : {A : Type 0} → Inside A → List (List ℕ)
lists_of v = map (chain_chunks v.cells.slots) v.chains.items

-- the chunks that are linked and free
abbrev pub spare_of : {A : Type 0} → Inside A → List ℕ
spare_of v = chain_chunks v.cells.slots v.free

-- what isn't made yet is free, too
abbrev pub free_of : {A : Type 0} → Inside A → List ℕ
free_of v = range_with_len 0 v.unmade ++ spare_of v

abbrev pub chunks_in : {A : Type 0} → Inside A → Chunks
chunks_in v = shown_chunks (rows_of v) (lists_of v) (free_of v)

-- the chunks are in their places and linked, and the block can be given back
pub record AreKept {A : Type 0} (v : Inside A) : Type 0 where
  pub settled : AreSettled (rows_of v) (lists_of v) (free_of v)
  pub linked : All (IsLinked v.cells.at v.cells.slots) v.chains.items
  pub spare : IsLinked v.cells.at v.cells.slots v.free
  pub bare : AreBare v.cells.slots v.unmade
  pub first : v.first.ptr ≡ v.cells.at
  pub size : length v.cells.slots ≡ v.count
  pub deed : (v.deed.at ≡ v.first.ptr) × (v.deed.len ≡ v.count) × (v.deed.alloc ≡ v.alloc)
