-- What the places of a block hold: chunks, each with its locks and a link to the next one.
use Rattle.std.specs.Prelude.{◌≡◌, ℕ, ◌<◌, List, [], map, take, get_or, slice_set, Option, None, Some}
use denote.RawPtr.{Ptr}
use Rattle.wit_model.specs.declared.locks.Instance.{Instance}
use Rattle.wit_pool.specs.Places.{spot, spot_at}
use Rattle.wit_pool.specs.declared.group.Group.{Group}
use Rattle.wit_pool.specs.declared.chunk.Next.{Next}
use Rattle.wit_pool.specs.declared.chunk.Chunk.{Chunk}
use Rattle.wit_pool.specs.contracts.chunk.Chunk.{the_row}

-- the locks of a group, oldest first
abbrev pub held_in : Group → List Instance
held_in g = take g.held g.items

abbrev pub chunk_at : List (Option Chunk) → ℕ → Option Chunk
chunk_at cs p = get_or cs p None

abbrev pub content : Option Chunk → List Instance
content None = []
content (Some c) = held_in c.group

-- what each place holds
abbrev pub rows_in : List (Option Chunk) → List (List Instance)
rows_in cs = map content cs

abbrev pub next_of : Option Chunk → Option Next
next_of None = None
next_of (Some c) = c.next

abbrev pub next_place : Next → ℕ
next_place l = l.place

-- the link leads to its place of the block at this address
pub record Leads (at : Ptr) (l : Next) : Type 0 where
  pub address : l.ptr ≡ spot_at the_row at l.place
  pub number : spot the_row at l.ptr ≡ l.place

-- and a chunk is there
pub record IsAt (at : Ptr) (cs : List (Option Chunk)) (l : Next) : Type 0 where
  pub leads : Leads at l
  pub chunk : Chunk
  pub there : chunk_at cs l.place ≡ Some chunk

-- the chunk at this place holds these locks now, and leads where it led
pub record IsRegrouped (cs cs' : List (Option Chunk)) (p : ℕ) (held : List Instance) : Type 0 where
  pub was : Chunk
  pub group : Group
  pub there : chunk_at cs p ≡ Some was
  pub now : cs' ≡ slice_set cs p (Some (record { next = was.next; group = group }))
  pub holds : held_in group ≡ held

-- the chunk at this place leads there now, and holds what it held
pub record IsLed (cs cs' : List (Option Chunk)) (p : ℕ) (next : Option Next) : Type 0 where
  pub was : Chunk
  pub there : chunk_at cs p ≡ Some was
  pub now : cs' ≡ slice_set cs p (Some (record { next = next; group = was.group }))

-- there is a chunk at this place
abbrev pub HasChunkAt : List (Option Chunk) → ℕ → Type 0
HasChunkAt cs p = (c : Chunk) × (chunk_at cs p ≡ Some c)

-- the first so many places hold no chunk
abbrev pub AreBare : List (Option Chunk) → ℕ → Type 0
AreBare cs n = (p : ℕ) → p < n → chunk_at cs p ≡ None
